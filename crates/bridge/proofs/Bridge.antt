-- From the contracts to the rules: what a function ensures is the whole step, and a trace of calls is the run of which the theorem speaks.
use mathlib.Core.Path.{◌≡◌, refl, sym, ap, ◌∙◌}
use mathlib.Core.Logic.{◌⊎◌, inl, inr}
use mathlib.Core.List.{List, [], ◌∷◌, ◌++◌, map}
use mathlib.Core.Bool.{Bool, true, false, cond}
use Prim.Native.Nat.{ℕ, ◌^◌, ◌≤◌, ◌<◌}
use native.Mathlib.Omega.{arith}
use lib.Dec.{eqb}
use borrow.Author.Tests.{eq-eqb}
use Rattle.octets.proofs.BoolLaws.{no}
use Rattle.rules.specs.Checks.{first}
use Rattle.rules.specs.Profiles.{Table, aligned}
use Rattle.rules.specs.Facts.{Facts, facts_of}
use Rattle.rules.specs.Header.{header_checks}
use Rattle.rules.specs.Calls as calls
use Rattle.rules.specs.Calls.{Call, add, change, revoke, open_slot, open_any, read, write, checks, Answer, done, answer, no_key_bytes, refused, buffer_after}
use Rattle.rules.specs.Step.{After, Run, writes, written, settle, step, run}
use Rattle.rules.specs.Format.{FormatInput, format}
use Rattle.rules.specs.Promises.{DoesFormat}
use Rattle.rules.proofs.AlignedLaws.{step-aligned, run-aligned, aligned-lawful}
use Rattle.profiles.specs.Suites.{alignment, built}
use Rattle.profiles.proofs.Lawful.{built-lawful}
use Rattle.ledger.specs.Demand3.{FormatTyped, AllTyped, add_accepted, last_image, Demand3}
use Rattle.ledger.proofs.General.{demand_3}
use Rattle.bridge.specs.Trace.{Returned, listed, changed, opened, filled, Kind, listing, changing, opening, reading}
use Rattle.bridge.specs.Trace.{kind_of, buffer_of, Ensured, image_left, answer_in, values_in, Trace, last_left, FollowsLedger}

-- a call of one kind is of no other
abbrev rank : Kind → ℕ
rank changing = 0
rank opening = 1
rank reading = 2
rank listing = 3

pub other : {A : Type 0} {k l : Kind} → k ≡ l → eqb (rank k) (rank l) ≡ false → A
other {k = k} {l = l} e d = no (sym d ∙ eq-eqb (rank k) (rank l) (ap rank e))

pub neither : {A : Type 0} {k l m : Kind} → (k ≡ l) ⊎ (k ≡ m) → eqb (rank k) (rank l) ≡ false → eqb (rank k) (rank m) ≡ false → A
neither (inl e) d d' = other e d
neither (inr e) d d' = other e d'

-- ---- a step of each kind: what it says, and what it leaves alone

-- an answer that is a number and nothing else
abbrev number : ℕ → Answer
number n = record { code = n; slot = 0; key_length = 0; key = []; bytes = [] }

module _ (f : Facts) (image : List ℕ) (r : ℕ) where
  -- calls that change the image answer a number and nothing else
  only_number : (c : Call) (b : Bool) → (kind_of c ≡ listing) ⊎ (kind_of c ≡ changing) → (settle f c image r b).said ≡ number (settle f c image r b).said.code
  unfolding settle answer done refused no_key_bytes
  only_number (add k key x list) true h = refl
  only_number (add k key x list) false h = refl
  only_number (change k passphrase to x filler list) true h = refl
  only_number (change k passphrase to x filler list) false h = refl
  only_number (revoke k filler list) true h = refl
  only_number (revoke k filler list) false h = refl
  only_number (open_slot k passphrase) b h = neither h refl refl
  only_number (open_any passphrase) b h = neither h refl refl
  only_number (read key u n buffer) b h = neither h refl refl
  only_number (write key u n buffer) true h = refl
  only_number (write key u n buffer) false h = refl

  -- openings leave the image, and return no bytes
  only_key : (c : Call) (b : Bool) → kind_of c ≡ opening → ((settle f c image r b).image ≡ image) × ((settle f c image r b).said.bytes ≡ [])
  unfolding settle answer calls.opened refused writes written
  only_key (add k key x list) b h = other h refl
  only_key (change k passphrase to x filler list) b h = other h refl
  only_key (revoke k filler list) b h = other h refl
  only_key (open_slot k passphrase) true h = (refl, refl)
  only_key (open_slot k passphrase) false h = (refl, refl)
  only_key (open_any passphrase) true h = (refl, refl)
  only_key (open_any passphrase) false h = (refl, refl)
  only_key (read key u n buffer) b h = other h refl
  only_key (write key u n buffer) b h = other h refl

  -- a read leaves the image, and its bytes are those that it leaves in the buffer
  only_bytes : (c : Call) (b : Bool) (v : ℕ) → eqb r 0 ≡ b → kind_of c ≡ reading
      → settle f c image r b ≡ record { said = answer_in (filled (settle f c image r b).said.code (buffer_after (settle f c image r b).said (buffer_of c)) v); image = image }
  unfolding settle answer refused no_key_bytes writes written buffer_after answer_in
  only_bytes (add k key x list) b v e h = other h refl
  only_bytes (change k passphrase to x filler list) b v e h = other h refl
  only_bytes (revoke k filler list) b v e h = other h refl
  only_bytes (open_slot k passphrase) b v e h = other h refl
  only_bytes (open_any passphrase) b v e h = other h refl
  only_bytes (read key u n buffer) true v e h = refl
  only_bytes (read key u n buffer) false v e h = rw e
  only_bytes (write key u n buffer) b v e h = other h refl

-- ---- from what a function ensures to the step

module _ (image : List ℕ) (c : Call) where
  abbrev decided : ℕ
  decided = first (header_checks built image ++ checks (facts_of built image) c)

  pub ensured_step : (r : Returned) → Ensured image c r → step built image c ≡ record { said = answer_in r; image = image_left image r }
  unfolding step answer_in
  ensured_step (listed r after list v) e =
      let s = only_number (facts_of built image) image decided c (eqb decided 0) (inl e.0) in
      λ j. record { said = (s ∙ ap number (sym e.1.code_is)) j; image = sym e.1.image_is j }
  ensured_step (changed r after v) e =
      let s = only_number (facts_of built image) image decided c (eqb decided 0) (inr e.0) in
      λ j. record { said = (s ∙ ap number (sym e.1.code_is)) j; image = sym e.1.image_is j }
  ensured_step (opened r slot key_length key v) e =
      let s = only_key (facts_of built image) image decided c (eqb decided 0) e.0 in
      let d = e.1 in
      λ j.
      record {
        said = record { code = sym d.code_is j; slot = sym d.slot_is j; key_length = sym d.length_is j; key = sym d.key_is j; bytes = s.1 j };
        image = s.0 j;
      }
  ensured_step (filled r after v) e =
      only_bytes (facts_of built image) image decided c (eqb decided 0) v refl e.0
      ∙ (λ j. record { said = answer_in (filled (sym e.1.code_is j) (sym e.1.buffer_is j) v); image = image })

-- ---- what a function returned, by the answer in it

module _ (image : List ℕ) (c : Call) where
  -- an opening's
  pub opened_as : kind_of c ≡ opening → (code slot key_length : ℕ) (key : List ℕ) (r : Returned) → Ensured image c r
      → answer_in r ≡ record { code = code; slot = slot; key_length = key_length; key = key; bytes = [] } → r ≡ opened code slot key_length key (values_in r)
  unfolding answer_in values_in
  opened_as h code slot key_length key (listed r after list v) e q = other (sym h ∙ e.0) refl
  opened_as h code slot key_length key (changed r after v) e q = other (sym h ∙ e.0) refl
  opened_as h code slot key_length key (opened r s n k v) e q =
      λ j. opened (ap (λ (x : Answer). x.code) q j) (ap (λ (x : Answer). x.slot) q j) (ap (λ (x : Answer). x.key_length) q j) (ap (λ (x : Answer). x.key) q j) v
  opened_as h code slot key_length key (filled r after v) e q = other (sym h ∙ e.0) refl

  -- an accepted read's
  filled_as : kind_of c ≡ reading → (bytes : List ℕ) (r : Returned) → Ensured image c r
      → answer_in r ≡ record { code = 0; slot = 0; key_length = 0; key = []; bytes = bytes } → r ≡ filled 0 bytes (values_in r)
  unfolding answer_in values_in
  filled_as h bytes (listed r after list v) e q = other (sym h ∙ e.0) refl
  filled_as h bytes (changed r after v) e q = other (sym h ∙ e.0) refl
  filled_as h bytes (opened r slot key_length key v) e q = other (sym h ∙ e.0) refl
  filled_as h bytes (filled r after v) e q =
      let z : r ≡ 0 = ap (λ (x : Answer). x.code) q in
      let b : after ≡ bytes = ap (λ (n : ℕ). cond (eqb n 0) after []) (sym z) ∙ ap (λ (x : Answer). x.bytes) q in
      λ j. filled (z j) (b j) v

-- ---- from a trace to the run

pub trace_run : (image : List ℕ) (cs : List Call) (rs : List Returned) → Trace image cs rs → run built image cs ≡ record { answers = map answer_in rs; image = last_left image rs }
unfolding run
trace_run image [] [] t = refl
trace_run image [] (r ∷ rs) t = absurd t
trace_run image (c ∷ cs) [] t = absurd t
trace_run image (c ∷ cs) (r ∷ rs) t =
    ap {B = Run} (λ a. record { answers = a.said ∷ (run built a.image cs).answers; image = (run built a.image cs).image }) (ensured_step image c r t.0)
    ∙ ap {B = Run} (λ u. record { answers = answer_in r ∷ u.answers; image = u.image }) (trace_run (image_left image r) cs rs t.1)

-- ---- the theorem, of what the functions return and leave

-- a drive was formatted with some alignment A (before Wish 4 with 1), and the calls' functions are called on it one after the other:
-- what they answered and left is what the theorem's list does
pub trace_ends : (A : ℕ) (a : FormatInput) (image after : List ℕ) (v : ℕ) → DoesFormat (aligned built A) a image 0 after v → (cs : List Call) (rs : List Returned)
    → Trace after cs rs → run (aligned built A) (format (aligned built A) a image).image cs ≡ record { answers = map answer_in rs; image = last_left after rs }
trace_ends A a image after v f cs rs t = ap (λ x. run (aligned built A) x cs) (sym f.image_is) ∙ run-aligned built A after cs ∙ trace_run after cs rs t

module _ (A : ℕ) (l : 1 ≤ A) (m : A < 2 ^ 32) (a : FormatInput) (typed : FormatTyped a) (image after : List ℕ) (v : ℕ)
    (f : DoesFormat (aligned built A) a image 0 after v) (cs : List Call) (typed-calls : AllTyped cs) (rs : List Returned) (t : Trace after cs rs) where
  abbrev table : Table
  table = aligned built A

  -- the theorem's list
  ends : run table (format table a image).image cs ≡ record { answers = map answer_in rs; image = last_left after rs }
  ends = trace_ends A a image after v f cs rs t

  theorem : Demand3 table a image cs
  theorem = demand_3 table (aligned-lawful built A built-lawful l m) a typed image (sym f.code_is) cs typed-calls

  -- a further function, called on the image that they left
  says : (c : Call) (r : Returned) → Ensured (last_left after rs) c r → answer_in r ≡ (step table (last_image table a image cs) c).said
  says c r e =
      sym (ap (λ (x : After). x.said) (step-aligned built A (last_left after rs) c ∙ ensured_step (last_left after rs) c r e))
      ∙ ap (λ (y : List ℕ). (step table y c).said) (sym (ap (λ (x : Run). x.image) ends))

  -- 02, Wish 4: "Drives with the old start are read and changed as before"
  pub follows-aligned : FollowsLedger (aligned built A) a image after cs rs
  follows-aligned =
      record {
        image_is = sym (ap (λ (x : Run). x.image) ends) ∙ theorem.image_is;
        answers_are = sym (ap (λ (x : Run). x.answers) ends) ∙ theorem.answers_are;
        live_opens = λ k h i key x e r q.
            opened_as (last_left after rs) (open_slot k x.passphrase) refl 0 k _ _ r q (says (open_slot k x.passphrase) r q ∙ theorem.live_opens k h i key x e);
        written_reads = λ u key plain e buffer b r q.
            filled_as (last_left after rs) (read key u 1 buffer) refl plain r q (says (read key u 1 buffer) r q ∙ theorem.written_reads u key plain e buffer b);
        one_image = λ a' typed' image' after' v' f' cs' ts' rs' t' e.
            sym (ap (λ (x : Run). x.image) ends) ∙ theorem.one_image a' typed' image' (sym f'.code_is) cs' ts' e
            ∙ ap (λ (x : Run). x.image) (trace_ends A a' image' after' v' f' cs' rs' t');
        some_live = λ h. theorem.some_live (ap (λ (x : Run). add_accepted cs x.answers) ends ∙ h);
      }

-- format's function accepts and leaves `after`, on the built alignment
pub follows-ledger : (a : FormatInput) → FormatTyped a → (image after : List ℕ) (v : ℕ) → DoesFormat built a image 0 after v → (cs : List Call) → AllTyped cs
    → (rs : List Returned) → Trace after cs rs → FollowsLedger built a image after cs rs
follows-ledger = follows-aligned alignment (omega arith) (omega arith)
