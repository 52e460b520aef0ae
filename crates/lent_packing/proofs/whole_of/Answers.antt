-- `lent_packing::whole_of` meets its contract: the cast loses nothing.
use mathlib.Core.Path.{◌∙◌}
use lib.Dec.{lit<}
use lib.Ieee.Casts.{to_signed_in}
use mir.Syntax.{w32}
use mir.Facts.{to_z-of_z}
use Rattle.engine.proofs.Read.{cast_back}
use Rattle.lent_packing.proofs.whole_of.Goals as goal

pub float_to_int-result : goal.float_to_int-result
float_to_int-result c = (cast_back 31 c.args.x (lit< tt) c.requires).0

pub returns : goal.returns
returns c = to_z-of_z {w = w32} (record { sfits = to_signed_in 31 c.args.x }) ∙ (cast_back 31 c.args.x (lit< tt) c.requires).1
