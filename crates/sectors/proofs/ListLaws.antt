-- Laws of lists in the lent buffer: an entry, a run with one more, a slot's list, and the buffer that is as long as its list.
use mathlib.Core.Path.{◌≡◌, sym, ap, ap₂, ◌∙◌}
use mathlib.Core.List.{List, [], ◌++◌, append-nil, append_assoc}
use mathlib.Core.Bool.{true}
use Prim.Native.Nat.{ℕ, ◌+◌, ◌-◌, ◌*◌, ◌≤◌}
use native.Mathlib.Numerals.{add-one}
use native.Mathlib.Omega.{arith}
use lib.ListN.{length, take, drop, length-append}
use borrow.Author.Tests.{eqb-true}
use Rattle.std.specs.Int.{div_ceil}
use Rattle.std.proofs.lemmas.Grind.{div_ceil_times}
use Rattle.octets.specs.Octets.{be32}
use Rattle.octets.specs.Pieces.{piece_count}
use Rattle.octets.specs.Splice.{part, splice}
use Rattle.octets.proofs.OctetsLaws.{length-big_endian}
use Rattle.octets.proofs.SpliceLaws.{splice-next, splice_all}
use Rattle.rules.specs.Facts.{Facts}
use Rattle.rules.specs.Sectors.{SectorWrite, sectors_from, encoded, entry_bytes, area_list, head_list, slot_list, slot_count}
use Rattle.rules.specs.Calls.{slot_number_ok, list_ok}
use Rattle.rules.proofs.SectorLaws.{encoded-append, sectors-next, length_run, length-head, head-runs, length-slot_list, sectors-end, sectors-inside}
use Rattle.profiles.specs.Suites.{built}
use Rattle.header.specs.Records.{facts_in, HeaderOk}
use Rattle.header.proofs.SoundLaws.{sound}
use Rattle.sectors.specs.declared.Area.{Area}
use Rattle.sectors.specs.Areas.{IsArea, Within, writes_of}

-- ---- sectors

-- bytes in sectors, rounded up
pub ceil-pieces : (n : ℕ) → div_ceil n 512 ≡ piece_count 512 n
ceil-pieces n = let b = div_ceil_times n 512 (omega arith) in omega (arith, b.0, b.1)

-- ---- entries

-- a sector's bytes, as they are lent
pub sector_lent : (image : List ℕ) (s : ℕ) → take (s * 512 + 512 - s * 512) (drop (s * 512) image) ≡ part image (s * 512) 512
unfolding part
sector_lent image s = ap (λ (n : ℕ). take n (drop (s * 512) image)) (let e : s * 512 + 512 - s * 512 ≡ 512 = omega arith in e)

-- number, then bytes, are the entry of a run of one sector
pub entry-put : (list image number bytes l₁ l₂ : List ℕ) (at s : ℕ) → at ≤ length list → number ≡ be32 s → bytes ≡ part image (s * 512) 512
    → l₁ ≡ splice list at number → l₂ ≡ splice l₁ (at + 4) bytes → l₂ ≡ splice list at (encoded (sectors_from image s 1))
unfolding encoded sectors_from
entry-put list image number bytes l₁ l₂ at s h en eb e₁ e₂ =
    let x = part image (s * 512) 512 in
    e₂
    ∙ ap₂ (λ (l b : List ℕ). splice l (at + 4) b) (e₁ ∙ ap (splice list at) en) (eb ∙ sym (append-nil x))
    ∙ splice-next list at (be32 s) (at + 4) (x ++ []) (omega (arith, length-big_endian 4 s)) h

-- one sector more, behind the run
pub run-put : (list image l₁ l₂ : List ℕ) (at s i : ℕ) → at ≤ length list → (s + i) * 512 ≤ length image
    → l₁ ≡ splice list at (encoded (sectors_from image s i)) → l₂ ≡ splice l₁ (at + i * 516) (encoded (sectors_from image (s + i) 1))
    → l₂ ≡ splice list at (encoded (sectors_from image s (i + 1)))
run-put list image l₁ l₂ at s i h k e₁ e₂ =
    let a = sectors_from image s i in
    let b = sectors_from image (s + i) 1 in
    e₂
    ∙ ap (λ (l : List ℕ). splice l (at + i * 516) (encoded b)) e₁
    ∙ splice-next list at (encoded a) (at + i * 516) (encoded b) (omega (arith, length_run image s i k)) h
    ∙ ap (splice list at) (sym (encoded-append a b))
    ∙ ap (λ (ws : List SectorWrite). splice list at (encoded ws)) (sym (sectors-next image s i))
    ∙ ap (λ (n : ℕ). splice list at (encoded (sectors_from image s n))) (sym (add-one i))

-- the run of an area, then sector 1, then sector 0
pub list_put : (list image l₁ l₂ l₃ : List ℕ) (a : Area) (at : ℕ) → at ≤ length list → Within a image
    → l₁ ≡ splice list at (encoded (sectors_from image a.start.0 a.sectors)) → l₂ ≡ splice l₁ (at + a.sectors * 516) (encoded (sectors_from image 1 1))
    → l₃ ≡ splice l₂ (at + a.sectors * 516 + 516) (encoded (sectors_from image 0 1)) → l₃ ≡ splice list at (encoded (writes_of a image))
list_put list image l₁ l₂ l₃ a at h w e₁ e₂ e₃ =
    let run = sectors_from image a.start.0 a.sectors in
    let one = sectors_from image 1 1 in
    let zero = sectors_from image 0 1 in
    let n = length_run image a.start.0 a.sectors (omega (arith, w.before, w.inside)) in
    let m = length_run image 1 1 (omega (arith, w.header)) in
    e₃
    ∙ ap (λ (l : List ℕ). splice l (at + a.sectors * 516 + 516) (encoded zero))
    (e₂ ∙ ap (λ (l : List ℕ). splice l (at + a.sectors * 516) (encoded one)) e₁
    ∙ splice-next list at (encoded run) (at + a.sectors * 516) (encoded one) (omega (arith, n)) h
    ∙ ap (splice list at) (sym (encoded-append run one)))
    ∙ splice-next list at (encoded (run ++ one)) (at + a.sectors * 516 + 516) (encoded zero)
    (omega (arith, n, m, length-append (encoded run) (encoded one), ap length (encoded-append run one))) h
    ∙ ap (splice list at) (sym (encoded-append (run ++ one) zero))
    ∙ ap (λ (ws : List SectorWrite). splice list at (encoded ws)) (append_assoc run one zero ∙ ap (λ (ws : List SectorWrite). run ++ ws) (sym (head-runs image)))

-- its bytes: those of the area's entries and of two more
pub length-writes : (image : List ℕ) (a : Area) → Within a image → length (encoded (writes_of a image)) ≡ a.sectors * 516 + 1032
length-writes image a w =
    let run = sectors_from image a.start.0 a.sectors in
    ap length (encoded-append run (head_list image))
    ∙ omega (
      arith,
      length-append (encoded run) (encoded (head_list image)),
      length_run image a.start.0 a.sectors (omega (arith, w.before, w.inside)),
      length-head image w.header,
    )

-- ---- a slot's list, on a drive whose header is accepted; after is the image after the work

module _ (image : List ℕ) (ok : HeaderOk image) (slot : ℕ) (h : slot_number_ok slot ≡ true) (a : Area) (i : IsArea a (facts_in image) slot)
    (after : List ℕ) (l : length after ≡ length image) where
  abbrev f : Facts
  f = facts_in image

  pub listed-is : writes_of a after ≡ slot_list f slot after
  unfolding slot_list area_list
  listed-is = λ j. sectors_from after (i.start_is j) (i.count_is j) ++ head_list after

  pub area-within : Within a after
  area-within =
      record {
        header = omega (arith, l, (sound image ok).size);
        before = omega (arith, i.start_is, i.count_is, i.payload_is, sectors-end built image ok slot h);
        inside = omega (arith, l, i.payload_is, (sound image ok).payload_ends);
      }

  -- its bytes
  pub length-list : length (encoded (writes_of a after)) ≡ slot_count f slot * entry_bytes
  length-list =
      ap (λ (ws : List SectorWrite). length (encoded ws)) listed-is
      ∙ length-slot_list f slot after (omega (arith, l, (sound image ok).size)) (omega (arith, l, sectors-inside built image ok slot h))

  -- a buffer of the list's length has room for it
  pub list-room : (list : List ℕ) → list_ok (slot_count f slot) list ≡ true → 0 + length (encoded (writes_of a after)) ≤ length list
  unfolding list_ok
  list-room list e = omega (arith, length-list, eqb-true (length list) (slot_count f slot * entry_bytes) e)

  -- and has it afterwards
  pub list-filled : (list end : List ℕ) → list_ok (slot_count f slot) list ≡ true → end ≡ splice list 0 (encoded (writes_of a after)) → end ≡ encoded (slot_list f slot after)
  unfolding list_ok
  list-filled list end e p =
      p ∙ splice_all list (encoded (writes_of a after)) (length-list ∙ sym (eqb-true (length list) (slot_count f slot * entry_bytes) e))
      ∙ ap encoded listed-is
