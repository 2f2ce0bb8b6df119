-- The splitter (LUKS 1.2.2, section 2.4; 01, "The splitter") over any diffusion function H, for keys of L bytes.
use Rattle.std.specs.Prelude.{List, ◌++◌, ℕ, zero, suc, ◌-◌, ◌*◌, take, drop}
use Rattle.octets.specs.Octets.{xors, zeros}

module _ (H : List ℕ → List ℕ) (L : ℕ) where
  -- the running block d after m more stripes, the first m of s: d(k) = H(d(k−1) xor s(k))
  unfoldable pub running : List ℕ → ℕ → List ℕ → List ℕ
  running d zero s = d
  running d (suc m) s = running (H (xors d (take L s))) m (drop L s)

  -- the n stripes of a key: n − 1 random ones, and the last, d(n−1) xor the key, where d(0) is L zero bytes
  unfoldable pub split : ℕ → List ℕ → List ℕ → List ℕ
  split n random key = random ++ xors (running (zeros L) (n - 1) random) key

  -- from the running block d: m more stripes of s, and the last stripe after them
  unfoldable pub merge_from : List ℕ → ℕ → List ℕ → List ℕ
  merge_from d m s = xors (running d m (take (m * L) s)) (drop (m * L) s)

  -- the key of n stripes
  unfoldable pub merge : ℕ → List ℕ → List ℕ
  merge n s = merge_from (zeros L) (n - 1) s
