use Rattle.std.proofs.Common.{◌≡◌, ◌-◌, length, vec_items, vec_len}
use Rattle.feed.specs.Steps.{terms_of}
use Rattle.feed.proofs.Scripting.{Reading}
use Rattle.feed.proofs.scripts.read_script.Given as goal

abbrev pub invariant-loop-read : goal.invariant-loop-read
invariant-loop-read l =
    Reading l.feed (terms_of l.session) (vec_items l.steps) (vec_items l.calls) (vec_len l.steps) l.reader.position × (l.reader.feed.now ≡ l.feed)

abbrev pub decreases-loop-read : goal.decreases-loop-read
decreases-loop-read l = length l.feed - l.reader.position
