-- That every ladder is sound. Assumes nothing.
use Rattle.std.specs.Prelude.{◌≡◌, ℕ, ◌+◌, ◌≤◌, true, ◌&&◌, List, [], ◌∷◌, ◌++◌, length, refl}
use Rattle.std.proofs.Common.{arith, length-append}
use Rattle.std.proofs.lemmas.List.{length-map}
use Rattle.std.proofs.lemmas.Bool.{and_parts, and_from}
use Rattle.ranking.proofs.Sorting.{Shuffle, none, keep, swap, then, back, same_length, shuffle_sorted}
use Rattle.book.specs.declared.sides.Buys.{Buys}
use Rattle.book.specs.declared.sides.Sells.{Sells}
use Rattle.book.specs.declared.sides.SideOrder.{SideOrder}
use Rattle.book.specs.Meaning.{Order, Sound, rising, ranged}
use Rattle.book.specs.Ranges.{in_range}
use Rattle.book.specs.Ranks.{earlier}
use Rattle.book.proofs.Listing.{body_ranged}
use Rattle.ladder.specs.Ladders.{orders_of, merged, ladder_book}

run_ranged : {S : Type 0} (xs : List (SideOrder S)) → ranged (orders_of xs) ≡ true
unfolding ranged
run_ranged [] = refl
run_ranged (x ∷ xs) = and_from (in_range x.live.body.limit x.live.body.quantity) (ranged (orders_of xs)) (body_ranged x.live.body) (run_ranged xs)

ranged_append : (xs ys : List Order) → ranged xs ≡ true → ranged ys ≡ true → ranged (xs ++ ys) ≡ true
unfolding ranged
ranged_append [] ys p q = q
ranged_append (x ∷ xs) ys p q = let both = and_parts (in_range x.limit x.quantity) (ranged xs) p in and_from (in_range x.limit x.quantity) (ranged (xs ++ ys)) both.0 (ranged_append xs ys both.1 q)

ranged_shuffle : {xs ys : List Order} → Shuffle xs ys → ranged xs ≡ true → ranged ys ≡ true
unfolding ranged
ranged_shuffle none h = h
ranged_shuffle (keep {x} {xs} {ys} s) h = let both = and_parts (in_range x.limit x.quantity) (ranged xs) h in and_from (in_range x.limit x.quantity) (ranged ys) both.0 (ranged_shuffle s both.1)
ranged_shuffle (swap {x} {y} {xs}) h =
    let one = and_parts (in_range x.limit x.quantity) (in_range y.limit y.quantity && ranged xs) h in
    let two = and_parts (in_range y.limit y.quantity) (ranged xs) one.1 in
    and_from (in_range y.limit y.quantity) (in_range x.limit x.quantity && ranged xs) two.0 (and_from (in_range x.limit x.quantity) (ranged xs) one.0 two.1)
ranged_shuffle (then s t) h = ranged_shuffle t (ranged_shuffle s h)

pub ladder_sound : (places last b s : ℕ) (buys : List (SideOrder Buys)) (sells : List (SideOrder Sells)) → b ≡ length buys → s ≡ length sells → places ≤ 256 → last ≤ 60000 → b + s ≤ places → rising 0 (merged (orders_of buys) (orders_of sells)) last ≡ true → Sound (ladder_book places last buys sells)
ladder_sound places last b s buys sells eb es few given fits rises =
    record {
      few = few;
      room = simp (same_length (shuffle_sorted earlier (orders_of buys ++ orders_of sells)), length-append, length-map) (omega arith);
      given = given;
      rises = rises;
      in_ranges = ranged_shuffle (back (shuffle_sorted earlier (orders_of buys ++ orders_of sells))) (ranged_append (orders_of buys) (orders_of sells) (run_ranged buys) (run_ranged sells));
    }
