-- Laws of lists of sector writes: their bytes, one list after another, a run with a sector more, and where an area's sectors lie.
use mathlib.Core.Path.{◌≡◌, refl, sym, ap, ◌∙◌}
use mathlib.Core.List.{List, [], ◌∷◌, ◌++◌, append_assoc}
use mathlib.Core.Bool.{true}
use Prim.Native.Nat.{ℕ, zero, suc, ◌+◌, ◌*◌, ◌≤◌}
use native.Mathlib.Omega.{arith}
use lib.ListN.{length, length-append}
use Rattle.octets.specs.Octets.{be32}
use Rattle.octets.specs.Splice.{part}
use Rattle.octets.proofs.OctetsLaws.{length-big_endian}
use Rattle.octets.proofs.SpliceLaws.{length_part}
use Rattle.rules.specs.Checks.{first}
use Rattle.rules.specs.Profiles.{Table}
use Rattle.rules.specs.Facts.{Facts, slot_of, facts_of}
use Rattle.rules.specs.Header.{header_checks}
use Rattle.rules.specs.Sectors.{SectorWrite, sectors_from, encoded, entry_bytes, area_count, area_list, head_list, slot_list, slot_count}
use Rattle.rules.specs.Calls.{slot_number_ok}
use Rattle.rules.proofs.SoundLaws.{header-sound}

pub encoded-append : (ws vs : List SectorWrite) → encoded (ws ++ vs) ≡ encoded ws ++ encoded vs
unfolding encoded
encoded-append [] vs = refl
encoded-append (w ∷ ws) vs =
    ap (λ (x : List ℕ). be32 w.0 ++ (w.1 ++ x)) (encoded-append ws vs)
    ∙ ap (λ (x : List ℕ). be32 w.0 ++ x) (sym (append_assoc w.1 (encoded ws) (encoded vs)))
    ∙ sym (append_assoc (be32 w.0) (w.1 ++ encoded ws) (encoded vs))

-- a run with one sector more, behind it
pub sectors-next : (image : List ℕ) (s m : ℕ) → sectors_from image s (suc m) ≡ sectors_from image s m ++ sectors_from image (s + m) 1
unfolding sectors_from
sectors-next image s zero = ap (λ (n : ℕ). (n, part image (n * 512) 512) ∷ []) (let e : s ≡ s + 0 = omega arith in e)
sectors-next image s (suc m) =
    ap (λ (ws : List SectorWrite). (s, part image (s * 512) 512) ∷ ws)
    (sectors-next image (suc s) m ∙ ap (λ (n : ℕ). sectors_from image (suc s) m ++ sectors_from image n 1) (let e : suc s + m ≡ s + suc m = omega arith in e))

-- the bytes of a run that lies in the image
pub length_run : (image : List ℕ) (s m : ℕ) → (s + m) * 512 ≤ length image → length (encoded (sectors_from image s m)) ≡ m * entry_bytes
unfolding encoded sectors_from
length_run image s zero h = refl
length_run image s (suc m) h =
    let x = part image (s * 512) 512 in
    let ys = encoded (sectors_from image (suc s) m) in
    omega (
      arith,
      length-append (be32 s) (x ++ ys),
      length-append x ys,
      length-big_endian 4 s,
      length_part image (s * 512) 512 (omega (arith, h)),
      length_run image (suc s) m (omega (arith, h)),
    )

-- sector 1 is a run of one sector, and so is sector 0
pub head-runs : (image : List ℕ) → head_list image ≡ sectors_from image 1 1 ++ sectors_from image 0 1
unfolding head_list sectors_from
head-runs image = refl

pub length-head : (image : List ℕ) → 1024 ≤ length image → length (encoded (head_list image)) ≡ 2 * entry_bytes
length-head image h =
    let a = encoded (sectors_from image 1 1) in
    let b = encoded (sectors_from image 0 1) in
    ap (λ (ws : List SectorWrite). length (encoded ws)) (head-runs image)
    ∙ ap length (encoded-append (sectors_from image 1 1) (sectors_from image 0 1))
    ∙ omega (arith, length-append a b, length_run image 1 1 (omega (arith, h)), length_run image 0 1 (omega (arith, h)))

-- check 20's length is that of the list, where its sectors lie in the image
pub length-slot_list : (f : Facts) (k : ℕ) (image : List ℕ) → 1024 ≤ length image → ((slot_of f k).start + area_count f k) * 512 ≤ length image
    → length (encoded (slot_list f k image)) ≡ slot_count f k * entry_bytes
unfolding slot_list area_list slot_count
length-slot_list f k image h i =
    let a = area_list f k image in
    ap length (encoded-append a (head_list image))
    ∙ omega (
      arith,
      length-append (encoded a) (encoded (head_list image)),
      length_run image (slot_of f k).start (area_count f k) i,
      length-head image h,
    )

-- ---- on a drive whose header is accepted

module _ (table : Table) (image : List ℕ) (ok : first (header_checks table image) ≡ 0) (k : ℕ) (h : slot_number_ok k ≡ true) where
  abbrev f : Facts
  f = facts_of table image

  -- the area's sectors end before the payload
  pub sectors-end : (slot_of f k).start + area_count f k ≤ f.payload_at
  unfolding area_count
  sectors-end = omega (arith, ((header-sound table image ok).slot k h).area_ends)

  pub sectors-inside : ((slot_of f k).start + area_count f k) * 512 ≤ length image
  sectors-inside = omega (arith, sectors-end, (header-sound table image ok).payload_ends)
