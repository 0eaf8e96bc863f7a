-- The number and the layer of each cause. Assumes nothing.
use Rattle.std.specs.Prelude.{ℕ, List, codes}
use Rattle.trading.specs.declared.refusals.Refusal.TheVariants.{Book as OfBook, Session as OfSession}
use Rattle.trading.specs.declared.refusals.Layer.{Layer as CallLayer}
use Rattle.trading.specs.declared.refusals.Layer.TheVariants.{Book as Layer-as-Book, Session as Layer-as-Session}
use Rattle.trading.specs.Refusals.{number_of as refusal_number}
use Rattle.feed.specs.declared.faults.Cause.{Cause}
use Rattle.feed.specs.declared.faults.Cause.TheVariants.{Malformed, OutOfTurn, Refused}
use Rattle.feed.specs.declared.faults.Layer.{Layer}
use Rattle.feed.specs.declared.faults.Layer.TheVariants.{Read, Session, Book}

abbrev pub number_of : Cause → ℕ
number_of Malformed = 1
number_of OutOfTurn = 2
number_of (Refused why) = refusal_number why

-- the layer that refuses a call
abbrev pub layer_at : CallLayer → Layer
layer_at Layer-as-Session = Session
layer_at Layer-as-Book = Book

abbrev pub layer_of : Cause → Layer
layer_of Malformed = Read
layer_of OutOfTurn = Read
layer_of (Refused (OfBook why)) = Book
layer_of (Refused (OfSession why)) = Session

abbrev pub layer_text : Layer → List ℕ
layer_text Read = codes "read"
layer_text Session = codes "session"
layer_text Book = codes "book"
