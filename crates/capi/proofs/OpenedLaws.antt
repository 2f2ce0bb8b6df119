-- What an opening returned, laid in 66 bytes, is the answer.
use mathlib.Core.Path.{◌≡◌, ◌∙◌}
use mathlib.Core.List.{List, ◌∷◌}
use Prim.Native.Nat.{ℕ}
use Rattle.rules.specs.Profiles.{Table}
use Rattle.rules.specs.Calls.{Call}
use Rattle.rules.specs.Promises.{DoesOpen, opened_bytes, FillsOpened}

pub filled : (table : Table) (image : List ℕ) (c : Call) (code slot key_length : ℕ) (key : List ℕ) (values r : ℕ) (b : List ℕ) (v : ℕ)
    → DoesOpen table image c code slot key_length key values → (r ≡ code) × (b ≡ slot ∷ key_length ∷ key) × (v ≡ values) → FillsOpened table image c r b v
unfolding opened_bytes
filled table image c code slot key_length key values r b v d e =
    record {
      code_is = e.0 ∙ d.code_is;
      bytes_are = e.1 ∙ (λ j. d.slot_is j ∷ d.length_is j ∷ d.key_is j);
      values_are = e.2 ∙ d.values_are;
    }
