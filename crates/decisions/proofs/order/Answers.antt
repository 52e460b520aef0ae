-- `decisions::order` meets its contract: the sheet's refusal, or that of an order, or the sheet after the orders.
use Rattle.std.proofs.Common.{◌∙◌, refl, Ok, Err}
use Rattle.std.proofs.lemmas.Result.{err_from_is_err_and}
use Rattle.order_lists.specs.Lists.{orders_in}
use Rattle.decisions.proofs.Orders.{sheet_refused, sheet_unchanged, orders_answered, orders_written, orders_unchanged}
use Rattle.decisions.proofs.order.Goals as goal

pub returns-in_err-opening : goal.returns-in_err-opening
returns-in_err-opening c =
    let p = err_from_is_err_and c.from_residual.result c.from_residual.ensures.1 in
    let meant = orders_in c.args.words.now in
    let refusal = c.in_err-opening.field-0.0 in
    rw (p.1, p.2) (
      sheet_refused c.args.bytes.now meant refusal c.opening.new.unit c.in_err-opening.ensures,
      sheet_unchanged c.args.bytes.now meant refusal c.opening.new.unit c.in_err-opening.ensures c.args.sheet.now,
    )

pub returns-in_err-order_all : goal.returns-in_err-order_all
returns-in_err-order_all c =
    let p = err_from_is_err_and c.from_residual-in_err-order_all.result c.from_residual-in_err-order_all.ensures.1 in
    let meant = orders_in c.args.words.now in
    let refused = Err c.in_err-order_all.field-0.0 in
    rw (p.1, p.2) (
      orders_answered c.args.bytes.now meant c.opening.new.unit c.in_ok-opening.ensures refused c.order_all.new.unit c.in_err-order_all.ensures,
      orders_unchanged c.args.bytes.now meant c.opening.new.unit c.in_ok-opening.ensures refused c.order_all.new.unit c.in_err-order_all.ensures refl c.args.sheet.now,
    )

pub returns : goal.returns
returns c =
    let meant = orders_in c.args.words.now in (
      orders_answered c.args.bytes.now meant c.opening.new.unit c.in_ok-opening.ensures (Ok tt) c.order_all.new.unit c.in_ok-order_all.ensures,
      c.fill.ensures.1 ∙ orders_written c.args.bytes.now meant c.opening.new.unit c.in_ok-opening.ensures (Ok tt) c.order_all.new.unit c.in_ok-order_all.ensures refl c.args.sheet.now,
    )
