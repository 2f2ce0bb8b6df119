-- Laws of sector writes carried out: a run of sectors, the two of the header, and the list of the work on one slot, on any image.
use mathlib.Core.Path.{◌≡◌, refl, sym, ap, ◌∙◌}
use mathlib.Core.List.{List, [], ◌∷◌, ◌++◌}
use Prim.Native.Nat.{ℕ, zero, suc, ◌+◌, ◌-◌, ◌*◌, ◌≤◌}
use native.Mathlib.Omega.{arith}
use lib.ListN.{length}
use Rattle.octets.specs.Splice.{part, splice}
use Rattle.octets.proofs.SpliceLaws.{length_part, length-splice, part-splice-after, splice_comm, splice-next, splice-nil}
use Rattle.rules.specs.Facts.{Facts, slot_of}
use Rattle.rules.specs.Step.{written, slot_writes}
use Rattle.rules.specs.Sectors.{SectorWrite, sectors_from, area_count, area_list, head_list, slot_list}
use Rattle.cuts.specs.Cuts.{carried_out}
use Rattle.cuts.proofs.PutLaws.{splice-same, part-add, window}

pub carried-append : (ws vs : List SectorWrite) (image : List ℕ) → carried_out (ws ++ vs) image ≡ carried_out vs (carried_out ws image)
unfolding carried_out
carried-append [] vs image = refl
carried-append (w ∷ ws) vs image = carried-append ws vs (splice image (w.0 * 512) w.1)

-- all sectors of a run
run-carried : (after image : List ℕ) (s m : ℕ) → length after ≡ length image → (s + m) * 512 ≤ length image
    → carried_out (sectors_from after s m) image ≡ splice image (s * 512) (part after (s * 512) (m * 512))
unfolding carried_out sectors_from part
run-carried after image s zero e h = sym (splice-nil image (s * 512))
run-carried after image s (suc m) e h =
    let x = part after (s * 512) 512 in
    let l : length x ≡ 512 = length_part after (s * 512) 512 (omega arith) in
    let i : length (splice image (s * 512) x) ≡ length image = length-splice image (s * 512) x (omega arith) in
    let p : suc s * 512 ≡ s * 512 + length x = omega arith in
    let q : suc s * 512 ≡ s * 512 + 512 = omega arith in
    let r : 512 + m * 512 ≡ suc m * 512 = omega arith in
    run-carried after (splice image (s * 512) x) (suc s) m (e ∙ sym i) (omega arith)
    ∙ splice-next image (s * 512) x (suc s * 512) (part after (suc s * 512) (m * 512)) p (omega arith)
    ∙ ap (λ y. splice image (s * 512) (x ++ part after y (m * 512))) q
    ∙ ap (λ y. splice image (s * 512) y) (sym (part-add after (s * 512) 512 (m * 512)))
    ∙ ap (λ y. splice image (s * 512) (part after (s * 512) y)) r

-- ---- the header's sectors, after a splice inside them

module _ (x : List ℕ) (o : ℕ) (b : List ℕ) (hb : o + length b ≤ 1024) (hx : 1024 ≤ length x) where
  -- the list with b in it
  abbrev y : List ℕ
  y = splice x o b

  length-y : length (splice x o b) ≡ length x
  length-y = length-splice x o b (omega arith)

  pub both-done : splice (splice x 512 (part (splice x o b) 512 512)) 0 (part (splice x o b) 0 512) ≡ splice x o b
  both-done =
      let u = part y 0 512 in
      let v = part y 512 512 in
      let ly = length-y in
      let lu : length u ≡ 512 = length_part y 0 512 (omega arith) in
      let lv : length v ≡ 512 = length_part y 512 512 (omega arith) in
      sym (splice_comm x 0 u 512 v (omega arith) (omega arith))
      ∙ splice-next x 0 u 512 v (omega arith) (omega arith)
      ∙ ap (λ z. splice x 0 z) (sym (part-add y 0 512 512))
      ∙ window x o b 0 1024 (omega arith) hb hx

  -- what is put stands in sector 0: sector 1 stays
  pub one-low : o + length b ≤ 512 → splice x 512 (part (splice x o b) 512 512) ≡ x
  one-low h = ap (λ z. splice x 512 z) (part-splice-after x o b 512 512 h (omega arith)) ∙ splice-same x 512 512 (omega arith)

  -- it stands in sector 1: sector 1 is all
  pub one_high : 512 ≤ o → splice x 512 (part (splice x o b) 512 512) ≡ splice x o b
  one_high h = window x o b 512 512 h hb hx

-- it crosses the edge: sector 1 takes what stands in it
pub one-across : (x a b : List ℕ) (o : ℕ) → o + length a ≡ 512 → 512 + length b ≤ 1024 → 1024 ≤ length x
    → splice x 512 (part (splice x o (a ++ b)) 512 512) ≡ splice x 512 b
one-across x a b o h hb hx =
    let w = splice x 512 b in
    let lw : length w ≡ length x = length-splice x 512 b (omega arith) in
    let e : splice x o (a ++ b) ≡ splice w o a = sym (splice-next x o a 512 b (sym h) (omega arith)) ∙ splice_comm x o a 512 b (omega arith) (omega arith) in
    ap (λ z. splice x 512 (part z 512 512)) e
    ∙ ap (λ z. splice x 512 z) (part-splice-after w o a 512 512 (omega arith) (omega arith))
    ∙ window x 512 b 512 512 (omega arith) hb hx

-- ---- the work on slot k: its area and the head of its record are written

module _ (f : Facts) (k : ℕ) (image area head : List ℕ) (least : 2 ≤ (slot_of f k).start) (room : ((slot_of f k).start + area_count f k) * 512 ≤ length image)
    (fits : length area ≤ area_count f k * 512) (most : 208 + (k - 1) * 48 + length head ≤ 1024) where
  -- where the area stands
  abbrev at : ℕ
  at = (slot_of f k).start * 512

  -- the image with the area alone
  abbrev filled : List ℕ
  filled = splice image at area

  -- and with both
  abbrev after : List ℕ
  after = written (slot_writes f k area head) image

  length-filled : length filled ≡ length image
  length-filled = length-splice image at area (omega (arith, fits, room))

  pub length-written : length (written (slot_writes f k area head) image) ≡ length image
  unfolding written slot_writes
  length-written = let l = length-filled in length-splice filled (208 + (k - 1) * 48) head (omega (arith, least, room)) ∙ l

  pub area-carried : carried_out (area_list f k (written (slot_writes f k area head) image)) image ≡ splice image ((slot_of f k).start * 512) area
  unfolding area_list written slot_writes
  area-carried =
      let m = area_count f k in
      let o = 208 + (k - 1) * 48 in
      let l = length-filled in
      run-carried (splice filled o head) image (slot_of f k).start m length-written room
      ∙ ap (λ x. splice image at x) (part-splice-after filled o head at (m * 512) (omega (arith, least)) (omega (arith, least, room)))
      ∙ window image at area at (m * 512) (omega arith) (omega (arith, fits)) (omega (arith, room))

  -- "Carried out in full, it turns the image before the call into the one after"
  pub slot-carried : carried_out (slot_list f k (written (slot_writes f k area head) image)) image ≡ written (slot_writes f k area head) image
  unfolding carried_out slot_list head_list written slot_writes
  slot-carried =
      let o = 208 + (k - 1) * 48 in
      let l = length-filled in
      carried-append (area_list f k after) (head_list after) image
      ∙ ap (λ x. splice (splice x 512 (part after 512 512)) 0 (part after 0 512)) area-carried
      ∙ both-done filled o head most (omega (arith, least, room))
