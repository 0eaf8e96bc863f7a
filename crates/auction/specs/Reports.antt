-- What is printed of a feed. Assumes nothing.
use Rattle.std.specs.Prelude.{◌≡◌, ◌≤◌, ◌<◌, ℕ, List, ◌++◌, length, flat_map, codes, decimal}
use Rattle.std.specs.Fmt.{signed_decimal}
use Rattle.note.specs.declared.trades.Trade.{Trade}
use Rattle.book.specs.Meaning.{Book, fresh}
use Rattle.price.specs.declared.indications.Indication.{Indication}
use Rattle.feed.specs.declared.faults.Cause.TheVariants.{Malformed}
use Rattle.feed.specs.declared.faults.Fault.{Fault}
use Rattle.feed.specs.Faults.{number_of, layer_of, layer_text}
use Rattle.feed.specs.Replies.{Told, accepted, numbered, crossed, faulty}
use Rattle.feed.specs.Playing.{Plays}

-- a trade: buy, sell, quantity
abbrev pub trade_text : Trade → List ℕ
trade_text t = decimal t.buy ++ (codes " " ++ (decimal t.sell ++ (codes " " ++ (decimal t.quantity ++ codes "\n"))))

-- an uncrossing: price, volume and imbalance, and then a line for each trade
abbrev pub told_line : Indication → List ℕ
told_line told =
    decimal told.price ++ (codes " " ++ (decimal told.volume ++ (codes " " ++ (signed_decimal told.imbalance ++ codes "\n"))))

abbrev pub crossed_text : Indication → List Trade → List ℕ
crossed_text told ts = told_line told ++ flat_map trade_text ts

-- a refusal: cause, layer, line and byte
abbrev pub fault_text : Fault → List ℕ
fault_text fault =
    codes "refused " ++ (decimal (number_of fault.cause) ++ (codes " " ++ (layer_text (layer_of fault.cause) ++ (codes " " ++ (decimal fault.line ++ (codes " " ++ (decimal fault.place ++ codes "\n")))))))

-- the answer to a line
abbrev pub told_text : Told → List ℕ
told_text accepted = codes "ok\n"
told_text (numbered n) = decimal n ++ codes "\n"
told_text (crossed told ts) = crossed_text told ts
told_text (faulty fault) = fault_text fault

-- a feed that is too long is malformed behind its last place, and in no line
abbrev pub too_long : Fault
too_long = record { cause = Malformed; line = 0; place = 65536 }

-- a feed was played on a fresh book of 256 places, with a register of 255, and the text is that of the answers to its lines
pub record Printed (feed : List ℕ) (text : List ℕ) : Type 0 where
  pub told : List Told
  pub register : List Trade
  pub places : length register ≡ 255
  pub left : Book
  pub written : List Trade
  pub plays : Plays feed (fresh 256) register told left written
  pub lines : text ≡ flat_map told_text told

-- the text is printed of a feed
pub record Reports (feed : List ℕ) (text : List ℕ) : Type 0 where
  pub played : length feed ≤ 65536 → Printed feed text
  pub refused : 65536 < length feed → text ≡ fault_text too_long
