-- Demand 1 of what the functions return and leave, from their contracts.
use mathlib.Core.Path.{◌≡◌, refl, sym, ap, ◌∙◌}
use mathlib.Core.Logic.{◌≢◌, ◌⊎◌, inl, inr}
use mathlib.Core.List.{List, [], ◌∷◌}
use mathlib.Core.Bool.{Bool, cond}
use Prim.Native.Nat.{ℕ}
use lib.Dec.{eqb}
use borrow.Author.Tests.{ne_eqb}
use Rattle.octets.specs.Octets.{zeros}
use Rattle.rules.specs.Facts.{facts_of}
use Rattle.rules.specs.Sectors.{encoded}
use Rattle.rules.specs.Calls.{Call, add, change, revoke, open_slot, open_any, read, write, Answer, no_key_bytes, refused, buffer_after}
use Rattle.rules.specs.Step.{After, step}
use Rattle.rules.specs.Lists.{list_of, list_after}
use Rattle.rules.specs.Promises.{opened_bytes}
use Rattle.rules.proofs.StepLaws.{step-number, step_refusal}
use Rattle.rules.proofs.FormatLaws.{number_of-format, format_refusal}
use Rattle.profiles.specs.Suites.{built}
use Rattle.bridge.specs.Trace.{Returned, listed, changed, opened, filled, changing, opening, kind_of, buffer_of, Ensured, image_left, answer_in, number_in, values_in}
use Rattle.bridge.specs.Refused.{buffer_left, Demand1}
use Rattle.bridge.proofs.Bridge.{other, neither, ensured_step, opened_as}

-- an opening that is refused with n answers n, and zeros
refused-opening : (n : ℕ) (c : Call) → kind_of c ≡ opening → refused n c ≡ record { code = n; slot = 0; key_length = 0; key = zeros 64; bytes = [] }
unfolding refused no_key_bytes
refused-opening n (add k key x list) h = other h refl
refused-opening n (change k passphrase to x filler list) h = other h refl
refused-opening n (revoke k filler list) h = other h refl
refused-opening n (open_slot k passphrase) h = refl
refused-opening n (open_any passphrase) h = refl
refused-opening n (read key u m buffer) h = other h refl
refused-opening n (write key u m buffer) h = other h refl

-- a write and an opening are lent no buffer to fill
no_buffer : (c : Call) → (kind_of c ≡ changing) ⊎ (kind_of c ≡ opening) → [] ≡ buffer_of c
no_buffer (add k key x list) h = neither h refl refl
no_buffer (change k passphrase to x filler list) h = neither h refl refl
no_buffer (revoke k filler list) h = neither h refl refl
no_buffer (open_slot k passphrase) h = refl
no_buffer (open_any passphrase) h = refl
no_buffer (read key u m buffer) h = neither h refl refl
no_buffer (write key u m buffer) h = refl

module _ (image : List ℕ) (c : Call) where
  -- the call's number
  abbrev number : ℕ
  number = (step built image c).said.code

  number_step : (r : Returned) → Ensured image c r → number_in r ≡ number
  number_step r e = sym (ap (λ (x : After). x.said.code) (ensured_step image c r e))

  -- a refused call
  module _ (r : Returned) (e : Ensured image c r) (n : number_in r ≢ 0) where
    refused-number : number ≢ 0
    refused-number q = n (number_step r e ∙ q)

    refusal : step built image c ≡ record { said = refused (number_in r) c; image = image }
    refusal = step_refusal built image c refused-number ∙ ap {B = After} (λ (m : ℕ). record { said = refused m c; image = image }) (sym (number_step r e))

    image_stays : image_left image r ≡ image
    image_stays = sym (ap (λ (x : After). x.image) (ensured_step image c r e)) ∙ ap (λ (x : After). x.image) refusal

    answer-is : answer_in r ≡ refused (number_in r) c
    answer-is = sym (ap (λ (x : After). x.said) (ensured_step image c r e)) ∙ ap (λ (x : After). x.said) refusal

  -- its list's buffer, and a read's
  list_stays : number ≢ 0 → (before : List ℕ) → list_after built image c before ≡ before
  unfolding list_after
  list_stays n before = ap (λ (b : Bool). cond b (encoded (list_of (facts_of built image) c image)) before) (ne_eqb number 0 n)

  read_stays : number ≢ 0 → (before : List ℕ) → buffer_after (step built image c).said before ≡ before
  unfolding buffer_after
  read_stays n before = ap (λ (b : Bool). cond b (step built image c).said.bytes before) (ne_eqb number 0 n)

  buffer_stays : (r : Returned) → Ensured image c r → number_in r ≢ 0 → buffer_left r ≡ buffer_of c
  buffer_stays (listed r after list v) e n = e.1.list_is ∙ list_stays (refused-number (listed r after list v) e n) (buffer_of c)
  buffer_stays (changed r after v) e n = no_buffer c (inl e.0)
  buffer_stays (opened r slot key_length key v) e n = no_buffer c (inr e.0)
  buffer_stays (filled r after v) e n = e.1.buffer_is ∙ read_stays (refused-number (filled r after v) e n) (buffer_of c)

  pub no_key : kind_of c ≡ opening → (r : Returned) → Ensured image c r → number_in r ≢ 0 → r ≡ opened (number_in r) 0 0 (zeros 64) (values_in r)
  no_key h r e n = opened_as image c h (number_in r) 0 0 (zeros 64) r e (answer-is r e n ∙ refused-opening (number_in r) c h)

  no-key-bytes : kind_of c ≡ opening → number ≢ 0 → opened_bytes (step built image c).said ≡ zeros 66
  unfolding opened_bytes zeros
  no-key-bytes h n = ap (λ (x : Answer). opened_bytes x) (ap (λ (x : After). x.said) (step_refusal built image c n) ∙ refused-opening number c h)

pub demand_1 : (image : List ℕ) → Demand1 image
demand_1 image =
    record {
      number_is = λ c r e. number_step image c r e ∙ step-number built image c;
      image_stays = λ c r e n. image_stays image c r e n;
      buffer_stays = λ c r e n. buffer_stays image c r e n;
      no_key = λ c h r e n. no_key image c h r e n;
      no_key_for_c = λ c h code bytes v d n. d.bytes_are ∙ no-key-bytes image c h (λ q. n (d.code_is ∙ q));
      format_number_is = λ a code after v d. d.code_is ∙ number_of-format built a image;
      format_image_stays = λ a code after v d n. d.image_is ∙ format_refusal built a image (λ q. n (d.code_is ∙ q));
    }
