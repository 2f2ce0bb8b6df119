-- SUBBYTES and its inverse: the words of each byte through a circuit, as the state in each lane sees it.
use mathlib.Core.Path.{◌≡◌, refl, sym, ap, ◌∙◌, subst}
use mathlib.Core.List.{List, map}
use Prim.Native.Nat.{ℕ, ◌+◌, ◌<◌}
use lib.ListN.{length}
use Rattle.gf256.specs.Field.{sub, inv_sub}
use Rattle.bitslice.specs.Circuit.{sbox_of, inv_sbox_of}
use Rattle.bitslice.specs.Words.{ones, lane_byte}
use Rattle.bitslice.proofs.LanesLaws.{sbox_lanes, inv_sbox_lanes}
use Rattle.aes.specs.Aes.{sub_bytes, inv_sub_bytes}
use Rattle.aes.specs.Planes.{cell, state}
use Rattle.aes.proofs.GroupLaws.{at16, apart16, Done, done_none, cell_more}
use Rattle.aes.proofs.PlaneLaws.{same-places}
use Rattle.planes.specs.Rows.{put_cell}

-- the cells below p are replaced by f, and the others are as in q₀
abbrev pub Cells : (f : ℕ → List ℕ → List ℕ) (q₀ : List ℕ) (p : ℕ) (q : List ℕ) → Type 0
Cells f q₀ p q = Done at16 16 8 apart16 (λ m. f ones (cell m q₀)) (λ m. cell m q₀) p q

pub cells_none : (f : ℕ → List ℕ → List ℕ) (q : List ℕ) → length q ≡ 128 → Cells f q 0 q
cells_none f q l = done_none at16 16 8 apart16 (λ m. f ones (cell m q)) (λ m. cell m q) q l (λ m. refl)

pub cells_more : (f : ℕ → List ℕ → List ℕ) → ((x : List ℕ) → length (f ones x) ≡ 8) → (q₀ q x y r : List ℕ) (p : ℕ) → p < 16 → x ≡ cell p q
    → y ≡ f ones x → r ≡ put_cell p y q → Cells f q₀ p q → Cells f q₀ (p + 1) r
cells_more f l q₀ q x y r p h ex ey er d =
    subst (λ (s : List ℕ). Cells f q₀ (p + 1) s) (sym er) (cell_more f l q₀ q y p h d (ey ∙ ap (f ones) ex))

mapped : (f : ℕ → List ℕ → List ℕ) (g : ℕ → ℕ) → ((j : ℕ) (x : List ℕ) → j < 32 → length x ≡ 8 → lane_byte j (f ones x) ≡ g (lane_byte j x))
    → (q r : List ℕ) → ((p : ℕ) → p < 16 → cell p r ≡ f ones (cell p q)) → (j : ℕ) → j < 32 → state j r ≡ map g (state j q)
unfolding state
mapped f g e q r d j h =
    same-places (λ p. lane_byte j (cell p r)) (λ p. g (lane_byte j (cell p q))) (λ p hp. ap (lane_byte j) (d p hp) ∙ e j (cell p q) h refl)

pub subbed : (q r : List ℕ) → ((p : ℕ) → p < 16 → cell p r ≡ sbox_of ones (cell p q)) → (j : ℕ) → j < 32 → state j r ≡ sub_bytes (state j q)
unfolding sub_bytes
subbed = mapped sbox_of sub sbox_lanes

pub unsubbed : (q r : List ℕ) → ((p : ℕ) → p < 16 → cell p r ≡ inv_sbox_of ones (cell p q)) → (j : ℕ) → j < 32 → state j r ≡ inv_sub_bytes (state j q)
unfolding inv_sub_bytes
unsubbed = mapped inv_sbox_of inv_sub inv_sbox_lanes
