-- Level orders as a list of words, three for each, and all of them given to a unit in turn. Definitions only.
use Rattle.std.specs.Prelude.{Bool, true, false, cond, ◌&&◌, List, [], ◌∷◌, ℕ, leb}
use Rattle.refusals.specs.Numbers.{is_accepted, Accepted}
use Rattle.unit.specs.declared.Unit.{Unit}
use Rattle.unit.specs.Sizes.{channel_count}
use Rattle.unit.specs.Answered.{Answered, answered}
use Rattle.settings.specs.declared.Setting.{Setting}
use Rattle.settings.specs.declared.Setting.TheVariants.{Position, Mute}
use Rattle.orders.specs.Orders.{ordered}
use Rattle.arguments.specs.declared.Word.{Word}
use Rattle.arguments.specs.declared.Word.TheVariants.{Number, Mute as MuteWord, Other}
use Rattle.order_lists.specs.declared.DeskOrder.{DeskOrder}

-- ---- one order

-- a number as a byte; one that is too large is the largest
unfoldable pub byte_of : ℕ → ℕ
byte_of n = cond (leb n 255) n 255

-- the number of a word as a side or a band; a word that is none stands for a place that is not there
abbrev pub no_place : ℕ
no_place = 1000000000

abbrev pub place_of : Word → ℕ
place_of (Number n) = n
place_of MuteWord = no_place
place_of Other = no_place

-- the level that a word means: mute, or a position; a word that is neither stands for a position that is not there
abbrev pub setting_of : Word → Setting
setting_of (Number level) = Position (byte_of level)
setting_of MuteWord = Mute
setting_of Other = Position (byte_of no_place)

abbrev pub order_in : Word → Word → Word → DeskOrder
order_in side band level = record { side = place_of side; band = place_of band; setting = setting_of level }

-- side and band are numbers, and the level is a number or mute
abbrev pub is_number : Word → Bool
is_number (Number n) = true
is_number MuteWord = false
is_number Other = false

abbrev pub is_level : Word → Bool
is_level (Number n) = true
is_level MuteWord = true
is_level Other = false

abbrev pub is_order : Word → Word → Word → Bool
is_order side band level = (is_number side && is_number band) && is_level level

-- ---- lists of them

-- the words are orders, one behind the other, and nothing is left over
abbrev pub are_orders : List Word → Bool
are_orders [] = true
are_orders (side ∷ []) = false
are_orders (side ∷ band ∷ []) = false
are_orders (side ∷ band ∷ level ∷ rest) = is_order side band level && are_orders rest

abbrev pub orders_in : List Word → List DeskOrder
orders_in [] = []
orders_in (side ∷ []) = []
orders_in (side ∷ band ∷ []) = []
orders_in (side ∷ band ∷ level ∷ rest) = order_in side band level ∷ orders_in rest

-- one order to a unit
abbrev pub ordered_one : Unit → DeskOrder → Answered
ordered_one u order = ordered channel_count u order.side order.band order.setting

-- the orders in turn, up to the first that is refused
abbrev pub ordered_all : Unit → List DeskOrder → Answered
ordered_all u [] = answered Accepted u
ordered_all u (order ∷ rest) = cond (is_accepted (ordered_one u order).verdict) (ordered_all (ordered_one u order).unit rest) (ordered_one u order)
