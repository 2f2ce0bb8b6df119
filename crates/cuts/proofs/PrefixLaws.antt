-- The cuts of 02, where the first writes of a list are done, are cuts in the work on a slot.
use mathlib.Core.Path.{◌≡◌, refl, sym, ap, ◌∙◌}
use mathlib.Core.Logic.{◌⊎◌, inl, inr}
use mathlib.Core.List.{List, [], ◌∷◌, ◌++◌}
use mathlib.Core.Bool.{Bool, true, false}
use Prim.Native.Nat.{ℕ, zero, suc, ◌+◌, ◌-◌}
use native.Mathlib.Omega.{arith}
use lib.Dec.{leb}
use lib.ListN.{length, take, replicate}
use lib.Seq.{take-append-le, take-append-add}
use borrow.Author.Tests.{leb-true, leb-false}
use Rattle.rules.specs.Facts.{Facts}
use Rattle.rules.specs.Sectors.{SectorWrite, area_list, head_list, slot_list}
use Rattle.cuts.specs.Cuts.{carried_out, marked, cut_after, in_area, in_head, stage_at}
use Rattle.cuts.specs.CutSafe.{StageImage}
use Rattle.cuts.proofs.CarryLaws.{carried-append}

marked-first : (j : ℕ) (xs : List SectorWrite) → marked (replicate j true) xs ≡ take j xs
unfolding marked
marked-first zero xs = refl
marked-first (suc j) [] = refl
marked-first (suc j) (x ∷ xs) = ap (λ r. x ∷ r) (marked-first j xs)

-- the first j of one list and then another: a beginning of the first, or the first and a beginning of the second
beginning : (P : List SectorWrite → Type 0) (ws vs : List SectorWrite) (j : ℕ) → P (take j ws) → ((i : ℕ) → P (ws ++ take i vs)) → P (take j (ws ++ vs))
beginning P ws vs j one two = go (leb j (length ws)) refl
  where
    go : (b : Bool) → leb j (length ws) ≡ b → P (take j (ws ++ vs))
    go true e = rw (take-append-le j ws vs (leb-true j (length ws) e)) one
    go false e =
        let i = j - length ws in
        let q : j ≡ length ws + i = let y = leb-false j (length ws) e in omega arith in
        rw (q, take-append-add ws vs i) (two i)

pub stage_prefix : (f : Facts) (k : ℕ) (after image : List ℕ) (j : ℕ) → StageImage f k after image (cut_after j (slot_list f k after) image)
unfolding cut_after slot_list stage_at
stage_prefix f k after image j =
    beginning (λ ws. StageImage f k after image (carried_out ws image)) (area_list f k after) (head_list after) j
    (in_area (replicate j true), ap (λ ws. carried_out ws image) (sym (marked-first j (area_list f k after))))
    (λ i. (in_head i, refl))

-- the cuts of one list and then another, the first of which makes of the image what between is
pub two_prefix : (f : Facts) (to k : ℕ) (between after image : List ℕ) → carried_out (slot_list f to between) image ≡ between → (j : ℕ)
    → StageImage f to between image (cut_after j (slot_list f to between ++ slot_list f k after) image)
    ⊎ StageImage f k after between (cut_after j (slot_list f to between ++ slot_list f k after) image)
unfolding cut_after
two_prefix f to k between after image e j =
    let ws = slot_list f to between in
    let vs = slot_list f k after in
    beginning (λ xs. StageImage f to between image (carried_out xs image) ⊎ StageImage f k after between (carried_out xs image)) ws vs j
    (inl (stage_prefix f to between image j))
    (λ i. let r = stage_prefix f k after between i in inr (r.0, carried-append ws (take i vs) image ∙ ap (carried_out (take i vs)) e ∙ r.1))
