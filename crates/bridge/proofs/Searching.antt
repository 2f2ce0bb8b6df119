-- What the search's function returns, from its contract and the law of the search.
use mathlib.Core.Path.{◌≡◌, refl, sym, ap, subst, ◌∙◌}
use mathlib.Core.List.{List}
use Prim.Native.Nat.{ℕ}
use native.Mathlib.Omega.{arith}
use Rattle.octets.specs.Octets.{zeros, padded}
use Rattle.rules.specs.Facts.{candidate, facts_of}
use Rattle.rules.specs.Calls as calls
use Rattle.rules.specs.Calls.{open_any}
use Rattle.rules.specs.Step.{After, step}
use Rattle.rules.specs.Search.{FirstOpens, Past, Searched}
use Rattle.rules.proofs.SearchLaws.{searched}
use Rattle.profiles.specs.Suites.{built}
use Rattle.bridge.specs.Trace.{Returned, opened, Ensured, answer_in, number_in, values_in}
use Rattle.bridge.specs.Searching.{SearchReturns}
use Rattle.bridge.proofs.Bridge.{ensured_step, opened_as}
use Rattle.bridge.proofs.Refused.{no_key}

module _ (image p : List ℕ) where
  -- what the rules say of it
  law : Searched built image p (step built image (open_any p)).said
  law = searched built image p

  says : (r : Returned) → Ensured image (open_any p) r → answer_in r ≡ (step built image (open_any p)).said
  says r e = sym (ap (λ (x : After). x.said) (ensured_step image (open_any p) r e))

  -- 17 comes with zeros
  with_17 : (r : Returned) → Ensured image (open_any p) r → (step built image (open_any p)).said.code ≡ 17 → r ≡ opened 17 0 0 (zeros 64) (values_in r)
  with_17 r e h =
      let q : number_in r ≡ 17 = ap (λ a. a.code) (says r e) ∙ h in
      no_key image (open_any p) refl r e (λ z. omega arith) ∙ ap (λ (n : ℕ). opened n 0 0 (zeros 64) (values_in r)) q

  first_opened : (k : ℕ) → Past built image p → FirstOpens (facts_of built image) p k → (r : Returned) → Ensured image (open_any p) r
      → r ≡ opened 0 k (facts_of built image).profile.key_bytes (padded 64 (candidate (facts_of built image) k p)) (values_in r)
  unfolding calls.opened
  first_opened k q o r e = opened_as image (open_any p) refl 0 k _ _ r e (says r e ∙ law.first_opened k q o)

  pub search_returns : SearchReturns image p
  search_returns =
      record {
        none_refused = λ q h r e. with_17 r e (law.none_refused q h);
        refused_none = λ slot key_length key v e. law.refused_none (sym e.1.code_is);
        none_enabled = λ q h r e. with_17 r e (law.none_enabled q h);
        first_opened = first_opened;
        opened_first = λ slot key_length key v e.
            let t = law.opened_first (sym e.1.code_is) in
            (t.0, subst (FirstOpens (facts_of built image) p) (sym e.1.slot_is) t.1);
      }
