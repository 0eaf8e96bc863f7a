-- The number and the layer of each refusal. Assumes nothing.
use Rattle.std.specs.Prelude.{ℕ}
use Rattle.book.specs.Refusals.{numbered as book_numbered}
use Rattle.session.specs.Refusals.{numbered as session_numbered}
use Rattle.trading.specs.declared.refusals.Refusal.{Refusal}
use Rattle.trading.specs.declared.refusals.Refusal.TheVariants.{Book, Session}
use Rattle.trading.specs.declared.refusals.Layer.{Layer}
use Rattle.trading.specs.declared.refusals.Layer.TheVariants.{Book as Layer-as-Book, Session as Layer-as-Session}

abbrev pub number_of : Refusal → ℕ
number_of (Book why) = book_numbered why
number_of (Session why) = session_numbered why

abbrev pub layer_of : Refusal → Layer
layer_of (Book why) = Layer-as-Book
layer_of (Session why) = Layer-as-Session
