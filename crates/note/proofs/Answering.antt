-- That bytes are accepted only as what is written for the answer. Assumes nothing.
use Rattle.std.proofs.Common.{◌≡◌, ℕ, ◌≤◌, true, leb, List, ◌++◌, length, take, drop, Ok, Err, sym, refl, ap, ◌∙◌, subst, arith, length-append}
use Rattle.std.proofs.lemmas.List.{take_at}
use Rattle.std.proofs.lemmas.Bool.{le-leb, and_from}
use Rattle.note.specs.declared.refusals.NoteRefusal.{NoteRefusal}
use Rattle.note.specs.declared.trades.Heading.{Heading}
use Rattle.note.specs.declared.trades.Trade.{Trade}
use Rattle.note.specs.Notes.{Note, is_legal, note_bytes}
use Rattle.note.specs.Reading.{read_trades, read_note}
use Rattle.note.specs.Writing.{note_of, is_writable, write_answer, written}
use Rattle.note.specs.Roundtrip.{WritesBack, Exact}
use Rattle.note.specs.Steps.{Stands}
use Rattle.note.proofs.Round.{ok_same, reads_back, only_written}
use Rattle.note.proofs.Written.{ok_answer}

-- bytes that are no note are those of no legal one
pub no_note : (bytes : List ℕ) (register : List Trade) (why : NoteRefusal) → read_note bytes ≡ Err why → Exact bytes register (Err why)
no_note bytes register why is = λ n legal are. let back = ap read_note are ∙ reads_back n legal in absurd (grind arith)

-- what was read is what is written for it
writes_back : (bytes : List ℕ) (n : Note) (more : List Trade) → read_note bytes ≡ Ok n → WritesBack bytes (record { price = n.price; count = length n.trades }) (n.trades ++ more)
writes_back bytes n more is =
    let ts = n.trades in
    let told = only_written bytes n is in
    let front : take (length ts) (ts ++ more) ≡ ts = take_at ts more (length ts) refl in
    let same : note_of n.price (length ts) (ts ++ more) ≡ n = ap (λ xs. record { price = n.price; trades = xs }) front in
    let places : length ts ≤ length (ts ++ more) = omega (arith, length-append ts more) in
    let ok : is_writable n.price (length ts) (ts ++ more) ≡ true = and_from (leb (length ts) (length (ts ++ more))) (is_legal (note_of n.price (length ts) (ts ++ more))) (le-leb (length ts) (length (ts ++ more)) places) (ap is_legal same ∙ told.legal) in
    let are : note_bytes (note_of n.price (length ts) (ts ++ more)) ≡ bytes = ap note_bytes same ∙ sym told.bytes_are in
    let long = ap length are in
    let value : (room : ℕ) → length bytes ≤ room → write_answer n.price (length ts) (ts ++ more) room ≡ Ok (length bytes) = λ room h. ok_answer n.price (length ts) (ts ++ more) ok room (omega arith) ∙ ap Ok long in
    record {
      answer = value;
      after = λ buffer h. ap (λ r. written r (note_bytes (note_of n.price (length ts) (ts ++ more))) buffer) (value (length buffer) h) ∙ ap (λ xs. xs ++ drop (length bytes) buffer) are;
    }

-- trades that were stored again are those that were judged
pub stored : {bytes : List ℕ} {heading : Heading} {first : List ℕ} → Stands bytes heading first → (n : ℕ) → n ≡ heading.count → {left : List ℕ} {places : List Trade} → Ok (places, left) ≡ read_trades n first → (more : List Trade) → WritesBack bytes heading (places ++ more)
stored {bytes} {heading} {first} s n count {places = places} took more =
    let both = ok_same (took ∙ ap (λ m. read_trades m first) count ∙ s.begins) in
    let is : s.trades ≡ places = sym (ap (λ x. x.0) both) in
    let head : record { price = heading.price; count = length s.trades } ≡ heading = ap (λ m. record { price = heading.price; count = m }) s.counted in
    let back = writes_back bytes (record { price = heading.price; trades = s.trades }) more s.note in
    subst (λ xs. WritesBack bytes heading (xs ++ more)) is (subst (λ x. WritesBack bytes x (s.trades ++ more)) head back)
