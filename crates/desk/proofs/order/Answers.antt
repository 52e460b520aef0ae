-- `desk::order` is safe: what is handed out is the sheet after accepted orders.
use mathlib.Core.Path.{refl, sym, ap, ◌∙◌}
use lib.ListN.{replicate}
use Rattle.refusals.specs.Numbers.{is_accepted}
use Rattle.sheet.specs.Sheet.{side_letters, sheet_size}
use Rattle.order_lists.specs.Lists.{orders_in}
use Rattle.decisions.proofs.Orders.{hands_out}
use Rattle.desk.proofs.order.Goals as goal

pub hand_out-requires : goal.hand_out-requires
hand_out-requires c =
    hands_out c.args.bytes.now (orders_in c.args.words.now) (ap is_accepted (sym c.order-verdict.ensures.0) ∙ sym c.is_ok.ensures.value ∙ c.if-is_ok.true)
    (replicate (sheet_size side_letters) 0) c.order-verdict.new.sheet refl c.order-verdict.ensures.1
