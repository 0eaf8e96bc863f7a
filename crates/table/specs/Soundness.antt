-- That every table is sound. Assumes nothing.
use Rattle.std.specs.Prelude.{◌≡◌, ℕ, ◌≤◌, true, List, [], ◌∷◌, length, refl}
use Rattle.std.proofs.Common.{arith}
use Rattle.std.proofs.lemmas.List.{length-map}
use Rattle.std.proofs.lemmas.Bool.{and_from}
use Rattle.book.specs.Meaning.{Sound, rising, ranged}
use Rattle.book.specs.Ranges.{in_range}
use Rattle.book.proofs.Listing.{body_ranged}
use Rattle.table.specs.declared.row.Row.{Row}
use Rattle.table.specs.Tables.{orders_of, table_book}

rows_ranged : (xs : List Row) → ranged (orders_of xs) ≡ true
unfolding ranged
rows_ranged [] = refl
rows_ranged (x ∷ xs) = and_from (in_range x.live.body.limit x.live.body.quantity) (ranged (orders_of xs)) (body_ranged x.live.body) (rows_ranged xs)

pub table_sound : (places last n : ℕ) (rows : List Row) → n ≡ length rows → places ≤ 256 → last ≤ 60000 → n ≤ places → rising 0 (orders_of rows) last ≡ true → Sound (table_book places last rows)
table_sound places last n rows e few given fits rises = record { few = few; room = simp length-map (omega arith); given = given; rises = rises; in_ranges = rows_ranged rows }
