-- What a ladder's own facts say of its two runs. Assumes nothing.
use Rattle.std.proofs.Common.{◌≡◌, ℕ, ◌+◌, ◌≤◌, List, length, refl, ◌∙◌, arith}
use lib.ListN.{length-map}
use Rattle.book.specs.declared.sides.Buys.{Buys}
use Rattle.book.specs.declared.sides.Sells.{Sells}
use Rattle.book.specs.declared.sides.SideOrder.{SideOrder}
use Rattle.ladder.specs.declared.ladders.Ladder.{Ladder}
use Rattle.ladder.specs.Ladders.{orders_of, merged}
use Rattle.ladder.proofs.Keeping.{Kept, orders_length}

-- the same of the lengths that the vectors keep
pub vector_fits : (places b s : ℕ) (buys : List (SideOrder Buys)) (sells : List (SideOrder Sells)) → b ≡ length buys → s ≡ length sells → length (orders_of buys) + length (orders_of sells) ≤ places → b + s ≤ places
vector_fits places b s buys sells eb es fits = let bought : length (orders_of buys) ≡ length buys = simp length-map refl in let sold : length (orders_of sells) ≡ length sells = simp length-map refl in omega arith

pub ladder_kept : (b : Ladder) → Kept b.intake.places b.intake.last (orders_of b.buys.run.items) (orders_of b.sells.run.items)
ladder_kept b =
    record {
      fits = simp length-map (omega (arith, b.fits, b.buys.run.ok.0, b.sells.run.ok.0));
      buys_ranked = b.buys.ranked;
      sells_ranked = b.sells.ranked;
      buys_sided = b.buys.sided;
      sells_sided = b.sells.sided;
      rises = b.rises;
    }

pub ladder_length : (b : Ladder) → length (merged (orders_of b.buys.run.items) (orders_of b.sells.run.items)) ≡ b.buys.run.len + b.sells.run.len
ladder_length b = orders_length b.intake.places b.intake.last (orders_of b.buys.run.items) (orders_of b.sells.run.items) (ladder_kept b) ∙ simp length-map (omega (arith, b.buys.run.ok.0, b.sells.run.ok.0))
