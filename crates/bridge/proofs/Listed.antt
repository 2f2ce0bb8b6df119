-- Wish 5 of 02, of what the functions leave: the buffer's entries are the list of which `cut-safe` speaks.
use mathlib.Core.Path.{◌≡◌, sym, ap, subst, ◌∙◌}
use mathlib.Core.Logic.{inl, inr}
use mathlib.Core.List.{List}
use mathlib.Core.Bool.{true, cond}
use Prim.Native.Nat.{ℕ, ◌/◌, ◌^◌, ◌≤◌, ◌<◌}
use native.Mathlib.Omega.{arith}
use lib.Dec.{eqb}
use lib.ListN.{length}
use Rattle.octets.specs.Octets.{Bytes}
use Rattle.rules.specs.Profiles.{aligned}
use Rattle.rules.specs.Facts.{SlotInput, facts_of}
use Rattle.rules.specs.Sectors.{SectorWrite, encoded, entry_bytes}
use Rattle.rules.specs.Calls.{Call, add, change, revoke, open_slot, open_any, read, write, done, refused}
use Rattle.rules.specs.Step.{After, step}
use Rattle.rules.specs.Lists.{list_of, list_after}
use Rattle.rules.specs.Format.{FormatInput}
use Rattle.rules.specs.Promises.{DoesListed, DoesFormat}
use Rattle.rules.proofs.AlignedLaws.{step-aligned, aligned-lawful}
use Rattle.profiles.specs.Suites.{alignment, built}
use Rattle.profiles.proofs.Lawful.{built-lawful}
use Rattle.ledger.specs.Demand3.{FormatTyped, Typed, AllTyped, last_image, last_ledger}
use Rattle.cuts.specs.Cuts.{carried_out, decoded}
use Rattle.cuts.specs.CutSafe.{gives_list, InChange, with_list, Reaches, CutSafe}
use Rattle.cuts.proofs.FullLaws.{list-read_back, list-carried-out}
use Rattle.cuts.proofs.General.{cut-safe}
use Rattle.bridge.specs.Trace.{Returned, listed, buffer_of, Ensured, Trace, last_left}
use Rattle.bridge.specs.Listed.{ListIs, Reached, ListFollows}
use Rattle.bridge.proofs.Bridge.{ensured_step, trace_ends}

-- the buffer of an accepted call has its list's bytes
list-bytes : (z : List ℕ) (c : Call) (before after list : List ℕ) (v : ℕ) → DoesListed built z c 0 after before list v → list ≡ encoded (list_of (facts_of built z) c z)
unfolding list_after
list-bytes z c before after list v d = d.list_is ∙ ap (λ (n : ℕ). cond (eqb n 0) (encoded (list_of (facts_of built z) c z)) before) (sym d.code_is)

-- on any drive, also one that another tool wrote; the image that the function is lent has bytes, as its type says
module _ (A : ℕ) (l : 1 ≤ A) (m : A < 2 ^ 32) (z : List ℕ) (bytes : Bytes z) (c : Call) (g : gives_list c ≡ true) (t : Typed c) (before after list : List ℕ)
    (v : ℕ) (d : DoesListed built z c 0 after before list v) where
  accepted : (step (aligned built A) z c).said.code ≡ 0
  accepted = ap (λ (x : After). x.said.code) (step-aligned built A z c) ∙ sym d.code_is

  entries-read : decoded (length list / entry_bytes) list ≡ list_of (facts_of (aligned built A) z) c z
  unfolding facts_of
  entries-read =
      ap (λ (x : List ℕ). decoded (length x / entry_bytes) x) (list-bytes z c before after list v d)
      ∙ list-read_back (aligned built A) (aligned-lawful built A built-lawful l m) z bytes c g t accepted

  list-aligned : ListIs (aligned built A) z c after list
  list-aligned =
      record {
        entries_are = entries-read;
        carried_is = ap (λ (ws : List SectorWrite). carried_out ws z) entries-read
            ∙ list-carried-out (aligned built A) (aligned-lawful built A built-lawful l m) z bytes c g t accepted
            ∙ ap (λ (x : After). x.image) (step-aligned built A z c)
            ∙ sym d.image_is;
      }

pub list_ensured : (z : List ℕ) → Bytes z → (c : Call) → gives_list c ≡ true → Typed c → (before after list : List ℕ) (v : ℕ) → DoesListed built z c 0 after before list v
    → ListIs built z c after list
list_ensured = list-aligned alignment (omega arith) (omega arith)

-- ---- a function at a cut

-- what the rules say of the call is so of what its function returned
reached : (A : ℕ) (y : List ℕ) (c : Call) (r : Returned) (uncut after : List ℕ) → Ensured y c r → uncut ≡ after → Reaches (aligned built A) y c uncut → Reached y r after
unfolding done refused
reached A y c r uncut after e q (inl s) =
    let t = sym (step-aligned built A y c ∙ ensured_step y c r e) ∙ s in
    inl (ap (λ (x : After). x.said.code) t, ap (λ (x : After). x.image) t ∙ q)
reached A y c r uncut after e q (inr s) =
    let t = sym (step-aligned built A y c ∙ ensured_step y c r e) ∙ s.0 in
    inr (ap (λ (x : After). x.said.code) t, ap (λ (x : After). x.image) t ∙ s.1 ∙ q, s.1 ∙ q)

-- of changes alone
in_change : (P Q : ℕ → List ℕ → ℕ → SlotInput → List ℕ → Type 0) (c : Call)
    → ((k : ℕ) (passphrase : List ℕ) (to : ℕ) (x : SlotInput) (filler : List ℕ) → P k passphrase to x filler → Q k passphrase to x filler) → InChange P c → InChange Q c
in_change P Q (add k key x list) h p = tt
in_change P Q (change k passphrase to x filler list) h p = h k passphrase to x filler p
in_change P Q (revoke k filler list) h p = tt
in_change P Q (open_slot k passphrase) h p = tt
in_change P Q (open_any passphrase) h p = tt
in_change P Q (read key u n buffer) h p = tt
in_change P Q (write key u n buffer) h p = tt

-- ---- the theorem

-- after functions called one after the other on a drive that was formatted with any alignment, an add, a change or a revoke is accepted
pub lists_aligned : (A : ℕ) → 1 ≤ A → A < 2 ^ 32 → (a : FormatInput) → FormatTyped a → (image after : List ℕ) (v : ℕ) → DoesFormat (aligned built A) a image 0 after v
    → (cs : List Call) → AllTyped cs → (rs : List Returned) → Trace after cs rs → (c : Call) → gives_list c ≡ true → Typed c → Bytes (last_left after rs)
    → (end list : List ℕ) (w : ℕ) → Ensured (last_left after rs) c (listed 0 end list w)
    → ListFollows (aligned built A) (last_ledger (aligned built A) a image cs) (last_left after rs) c end list
lists_aligned A l m a typed image after v f cs ts rs t c g tc bytes end list w e =
    let table = aligned built A in
    let z = last_left after rs in
    let q : last_image table a image cs ≡ z = ap (λ r. r.image) (trace_ends A a image after v f cs rs t) in
    let yes' = accepted A l m z bytes c g tc (buffer_of c) end list w e.1 in
    let ok = aligned-lawful built A built-lawful l m in
    let there = cut-safe table ok a typed image (sym f.code_is) cs ts c g tc (ap (λ (y : List ℕ). (step table y c).said.code) q ∙ yes') in
    let s : CutSafe table z (last_ledger table a image cs) c = subst (λ (y : List ℕ). CutSafe table y (last_ledger table a image cs) c) q there in
    let uncut : (step table z c).image ≡ end = ap (λ (x : After). x.image) (step-aligned built A z c) ∙ sym e.1.image_is in
    record {
      list_is = list-aligned A l m z bytes c g tc (buffer_of c) end list w e.1;
      safe = s;
      once_more = λ y cut off list' h r d. reached A y (with_list c list') r (step table z c).image end d uncut ((s.at_cut y cut).once_more off list' h);
      finished = λ y cut.
          in_change _ _ c (λ k passphrase to x filler p on list' h r d. reached A y (revoke k filler list') r (step table z c).image end d uncut (p on list' h))
          (s.at_cut y cut).finished;
    }

-- on the built alignment
pub lists_follow : (a : FormatInput) → FormatTyped a → (image after : List ℕ) (v : ℕ) → DoesFormat built a image 0 after v
    → (cs : List Call) → AllTyped cs → (rs : List Returned) → Trace after cs rs → (c : Call) → gives_list c ≡ true → Typed c → Bytes (last_left after rs)
    → (end list : List ℕ) (w : ℕ) → Ensured (last_left after rs) c (listed 0 end list w)
    → ListFollows built (last_ledger built a image cs) (last_left after rs) c end list
lists_follow = lists_aligned alignment (omega arith) (omega arith)
