-- Calls that have a list: what `?` hands on of a refused one in the rules' words, and what is known behind the early checks.
use mathlib.Core.Path.{◌≡◌, sym, subst, ap, ◌∙◌}
use mathlib.Core.List.{List}
use Prim.Native.Nat.{ℕ}
use Rattle.std.specs.Prelude.{Result, Ok, Err, IsErrAnd}
use Rattle.rules.specs.Checks.{first}
use Rattle.rules.specs.Header.{header_checks}
use Rattle.rules.specs.Calls.{Call, early_checks, late_checks}
use Rattle.rules.specs.Costs.{test_cost}
use Rattle.rules.specs.Promises.{DoesListed}
use Rattle.rules.proofs.ChecksLaws.{Pass, accepted}
use Rattle.rules.proofs.StepLaws.{numbered-early, step-header, step-early, step-late, lists_refused}
use Rattle.profiles.specs.Suites.{built}
use Rattle.header.specs.declared.refusal.Refusal.{Refusal}
use Rattle.header.specs.declared.refusal.Refused.{Refused}
use Rattle.header.specs.Refusals.{number, answered, values_of}
use Rattle.header.specs.Records.{facts_in, HeaderOk}
use Rattle.header.proofs.AnswerLaws.{number_some}

-- ---- refused

module _ (image : List ℕ) (c : Call) (list : List ℕ) where
  -- a call's refusal, which leaves the list as it was
  listed-as : (r : Result ℕ Refused) (f : Refused) → IsErrAnd r (λ g. g ≡ f) → DoesListed built image c (number f.refusal) image list list f.values
      → DoesListed built image c (answered r) image list list (values_of r)
  listed-as (Ok x) f h d = absurd h
  listed-as (Err g) f h d = subst (λ (g : Refused). DoesListed built image c (number g.refusal) image list list g.values) (sym h) d

  module _ (r : Result ℕ Refused) (e : Refusal) (h : IsErrAnd r (λ f. f ≡ record { refusal = e; values = 0 })) where
    -- by the header check
    pub listed-header : number e ≡ first (header_checks built image) → DoesListed built image c (answered r) image list list (values_of r)
    listed-header n = listed-as r _ h (lists_refused built image c (number e) 0 (number_some e) list (step-header built image c (number e) (number_some e) n))

    -- by a check that derives nothing; the drive that it asks has the image's bytes
    pub listed-early : (drive : List ℕ) → drive ≡ image → HeaderOk drive → number e ≡ first (early_checks (facts_in drive) c)
        → DoesListed built image c (answered r) image list list (values_of r)
    listed-early drive same ok n =
        listed-as r _ h (lists_refused built image c (number e) 0 (number_some e) list
        (step-early built image c (subst HeaderOk same ok) (number e) (number_some e) (n ∙ ap (λ (m : List ℕ). first (early_checks (facts_in m) c)) same)))

  -- by one that derives
  pub listed-late : (r : Result ℕ Refused) (f : Refused) → IsErrAnd r (λ g. g ≡ f) → HeaderOk image → first (early_checks (facts_in image) c) ≡ 0
      → number f.refusal ≡ first (late_checks (facts_in image) c) → f.values ≡ test_cost (facts_in image) c
      → DoesListed built image c (answered r) image list list (values_of r)
  listed-late r f h ok early n v =
      listed-as r f h (lists_refused built image c (number f.refusal) f.values (number_some f.refusal) list
      (step-late built image c ok early (number f.refusal) (number_some f.refusal) n f.values v))

-- ---- behind the early checks

pub record Ready (image : List ℕ) (c : Call) : Type 0 where
  pub header_ok : HeaderOk image
  pub early : first (early_checks (facts_in image) c) ≡ 0
  pub passed : Pass (early_checks (facts_in image) c)

-- the drive that they ask has the image's bytes, and the slot k the number that is given
pub ready : (image drive : List ℕ) → drive ≡ image → HeaderOk drive → (k slot : ℕ) → k ≡ slot → (c : ℕ → Call) → 0 ≡ first (early_checks (facts_in drive) (c slot))
    → Ready image (c k)
ready image drive same ok k slot e c n =
    let z : first (early_checks (facts_in image) (c k)) ≡ 0 = (λ i. first (early_checks (facts_in (sym same i)) (c (e i)))) ∙ sym n in
    record { header_ok = subst HeaderOk same ok; early = z; passed = accepted _ (numbered-early (facts_in image) (c k)) z }
