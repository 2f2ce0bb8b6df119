-- What an accepted call passed, header check included, and the image it leaves.
use mathlib.Core.Path.{◌≡◌, refl, sym, ◌∙◌}
use mathlib.Core.List.{List, [], ◌∷◌, ◌++◌}
use mathlib.Core.Bool.{Bool, true, false}
use Prim.Native.Nat.{ℕ}
use lib.Dec.{eqb}
use borrow.Author.Tests.{eqb-true, eq-eqb}
use Rattle.octets.proofs.BoolLaws.{no}
use Rattle.rules.specs.Checks.{Check, first}
use Rattle.rules.specs.Profiles.{Table}
use Rattle.rules.specs.Facts.{Facts, facts_of}
use Rattle.rules.specs.Header.{header_checks}
use Rattle.rules.specs.Calls.{Call, checks, refused}
use Rattle.rules.specs.Step.{written, writes, settle, step}
use Rattle.rules.proofs.ChecksLaws.{Pass, accepted, first_pass, numbered-append}
use Rattle.rules.proofs.StepLaws.{numbered-header, numbered-checks}

pass_split : (cs ds : List Check) → Pass (cs ++ ds) → Pass cs × Pass ds
pass_split [] ds p = (tt, p)
pass_split (c ∷ cs) ds p = let q = pass_split cs ds p.1 in ((p.0, q.0), q.1)

settled : (f : Facts) (c : Call) (image : List ℕ) (r : ℕ) (b : Bool) → eqb r 0 ≡ b → (settle f c image r b).said.code ≡ 0
    → (r ≡ 0) × ((settle f c image r b).image ≡ written (writes f c) image)
unfolding settle refused
settled f c image r true e h = (eqb-true r 0 e, refl)
settled f c image r false e h = no (sym e ∙ eq-eqb r 0 h)

module _ (table : Table) (image : List ℕ) (c : Call) (yes' : (step table image c).said.code ≡ 0) where
  -- the image's facts
  abbrev f : Facts
  f = facts_of table image

  settled_so : (first (header_checks table image ++ checks f c) ≡ 0) × ((step table image c).image ≡ written (writes f c) image)
  unfolding step
  settled_so = settled f c image _ _ refl yes'

  passed : Pass (header_checks table image) × Pass (checks f c)
  passed =
      pass_split (header_checks table image) (checks f c)
      (accepted (header_checks table image ++ checks f c) (numbered-append (header_checks table image) (checks f c) (numbered-header table image) (numbered-checks f c)) settled_so.0)

  pub header-accepted : first (header_checks table image) ≡ 0
  header-accepted = first_pass (header_checks table image) passed.0

  pub checks_pass : Pass (checks (facts_of table image) c)
  checks_pass = passed.1

  pub image-after : (step table image c).image ≡ written (writes (facts_of table image) c) image
  image-after = settled_so.1
