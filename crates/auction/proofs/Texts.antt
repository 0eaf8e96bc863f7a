-- What is printed of the answers, and of a feed. Assumes nothing.
use Rattle.std.proofs.Common.{◌≡◌, ℕ, List, length, flat_map, sym}
use Rattle.std.proofs.lemmas.List.Folds.{flat_map-map}
use Rattle.std.specs.Prelude.{Result}
use Rattle.note.specs.declared.trades.Trade.{Trade}
use Rattle.book.specs.Meaning.{Book, fresh}
use Rattle.feed.specs.declared.faults.Fault.{Fault}
use Rattle.feed.specs.declared.replies.Done.{Done}
use Rattle.feed.specs.Replies.{Told, read, read_all}
use Rattle.feed.specs.Playing.{Plays}
use Rattle.auction.specs.Reports.{told_text, Printed}

abbrev pub one_text : List Trade → Result Done Fault → List ℕ
one_text log reply = told_text (read log reply)

-- the answers one after another are the answers as they are read
pub read_one_by_one : (log : List Trade) (rs : List (Result Done Fault)) → flat_map (one_text log) rs ≡ flat_map told_text (read_all log rs)
read_one_by_one log rs = sym (flat_map-map told_text (read log) rs)

-- a feed that was played on a book that is a fresh one
pub printed : (feed : List ℕ) (m : Book) (register : List Trade) (told : List Told) (left : Book) (written : List Trade) → Plays feed m register told left written → m ≡ fresh 256 → length register ≡ 255 → (text : List ℕ) → text ≡ flat_map told_text told → Printed feed text
printed feed m register told left written plays new places text lines =
    record { told = told; register = register; places = places; left = left; written = written; plays = rw (sym new) plays; lines = lines }
