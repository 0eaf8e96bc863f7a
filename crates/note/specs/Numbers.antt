-- How a number is written in seven-bit groups, and which number stands at the front of some bytes. Assumes nothing.
use Rattle.std.specs.Prelude.{ℕ, zero, suc, ◌+◌, ◌-◌, ◌*◌, ◌/◌, ◌%◌, ◌^◌, cond, List, [], ◌∷◌, Some, None, Option, ◌==◌, nat_lt}

-- at most `most` groups of n, the lowest first, each but the last with 128 added: its high bit
unfoldable pub groups : ℕ → ℕ → List ℕ
groups zero n = []
groups (suc most) n = let more = groups most (n / 128) in cond (nat_lt n 128) (n ∷ []) ((128 + n % 128) ∷ more)

-- all groups of n, of which there are at most n + 1
unfoldable pub encoded : ℕ → List ℕ
encoded n = groups (suc n) n

-- a group with the number after it, which is not 0: else the group would have been the last
abbrev pub with_group : ℕ → Option (ℕ × List ℕ) → Option (ℕ × List ℕ)
with_group low None = None
with_group low (Some (high, rest)) = cond (high == 0) None (Some (low + 128 * high, rest))

-- the number at the front of the bytes, whatever its size, and the bytes after it; none if it is cut off or over-long
unfoldable pub leading : List ℕ → Option (ℕ × List ℕ)
leading [] = None
leading (b ∷ bs) = cond (nat_lt b 128) (Some (b, bs)) (cond (nat_lt b 256) (with_group (b - 128) (leading bs)) None)

-- one that has at most 32 bits
abbrev pub of_32_bits : Option (ℕ × List ℕ) → Option (ℕ × List ℕ)
of_32_bits None = None
of_32_bits (Some (n, rest)) = cond (nat_lt n (2 ^ 32)) (Some (n, rest)) None

-- the number at the front of the bytes and the bytes after it; none if it is cut off, over-long or above 4,294,967,295
abbrev pub number : List ℕ → Option (ℕ × List ℕ)
number bytes = of_32_bits (leading bytes)
