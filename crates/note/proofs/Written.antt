-- What a note that was put into the buffer answers, leaves and reads back as. Assumes nothing.
use Rattle.std.proofs.Common.{◌≡◌, ℕ, ◌+◌, ◌≤◌, true, leb, List, ◌++◌, length, take, drop, Ok, sym, ap, ◌∙◌, subst, arith, length-append}
use Rattle.std.proofs.lemmas.List.{length-take-le, take_at}
use Rattle.std.proofs.lemmas.Bool.{leb-true, le-leb, and_parts}
use Rattle.note.specs.declared.trades.Trade.{Trade}
use Rattle.note.specs.Numbers.{encoded}
use Rattle.note.specs.Notes.{is_legal, trades_bytes, note_bytes}
use Rattle.note.specs.Reading.{read_note}
use Rattle.note.specs.Writing.{note_of, is_writable, write_answer}
use Rattle.note.specs.Roundtrip.{ReadsBack}
use Rattle.note.proofs.Round.{reads_back}
use Rattle.note.proofs.Placing.{answer_placed, register_placed}

length_three : (xs ys zs : List ℕ) → length (xs ++ (ys ++ zs)) ≡ length xs + length ys + length zs
length_three xs ys zs = omega (arith, length-append xs (ys ++ zs), length-append ys zs)

module _ (price count : ℕ) (register : List Trade) (ok : is_writable price count register ≡ true) where
  both : (leb count (length register) ≡ true) × (is_legal (note_of price count register) ≡ true)
  both = and_parts (leb count (length register)) (is_legal (note_of price count register)) ok

  pub places : count ≤ length register
  places = leb-true count (length register) both.0

  counted : length (take count register) ≡ count
  counted = length-take-le count register places

  -- the parts that the code writes
  in_parts : note_bytes (note_of price count register) ≡ encoded price ++ (encoded count ++ trades_bytes (take count register))
  in_parts = ap (λ n. encoded price ++ (encoded n ++ trades_bytes (take count register))) counted

  -- a buffer of enough room
  pub ok_answer : (room : ℕ) → length (note_bytes (note_of price count register)) ≤ room → write_answer price count register room ≡ Ok (length (note_bytes (note_of price count register)))
  ok_answer room h = rw (ok, le-leb (length (note_bytes (note_of price count register))) room h)

  read_whole : read_note (note_bytes (note_of price count register)) ≡ Ok (note_of price count register)
  read_whole = reads_back (note_of price count register) both.1

  reads_again : ReadsBack price count (take count register) (note_bytes (note_of price count register))
  reads_again =
      record {
        answer = λ places h. answer_placed _ _ read_whole places (omega (arith, counted)) ∙ ap (λ n. Ok (record { price = price; count = n })) counted;
        register = λ places h. register_placed _ _ read_whole places (omega (arith, counted)) ∙ ap (λ n. take count register ++ drop n places) counted;
      }

  -- the front of a buffer that begins with these parts reads back
  pub front_reads : (number counter bytes rest : List ℕ) → number ≡ encoded price → counter ≡ encoded count → bytes ≡ trades_bytes (take count register) → (len : ℕ) → len ≡ length number + length counter + length bytes → ReadsBack price count (take count register) (take len ((number ++ (counter ++ bytes)) ++ rest))
  front_reads number counter bytes rest one two three len is =
      let whole : number ++ (counter ++ bytes) ≡ note_bytes (note_of price count register) = (λ i. one i ++ (two i ++ three i)) ∙ sym in_parts in
      let front = take_at (number ++ (counter ++ bytes)) rest len (length_three number counter bytes ∙ sym is) ∙ whole in
      subst (ReadsBack price count (take count register)) (sym front) reads_again
