-- Demand 1, of what the functions return and leave: "Every public call checks all it is given and ends, accepted or with a refusal number. After a
-- refusal the image and every lent buffer are unchanged and no key byte is returned."
use Rattle.std.specs.Prelude.{◌≡◌, ◌≢◌, List, [], ◌++◌, ℕ}
use Rattle.octets.specs.Octets.{zeros}
use Rattle.rules.specs.Checks.{first}
use Rattle.rules.specs.Facts.{facts_of}
use Rattle.rules.specs.Header.{header_checks}
use Rattle.rules.specs.Calls.{Call, checks}
use Rattle.rules.specs.Format.{FormatInput, format_checks}
use Rattle.rules.specs.Promises.{DoesFormat, FillsOpened}
use Rattle.profiles.specs.Suites.{built}
use Rattle.bridge.specs.Trace.{Returned, listed, changed, opened, filled, opening, kind_of, buffer_of, Ensured, image_left, number_in, values_in}

-- what a function left in the buffer that it was lent to fill: that of a list of writes, or a read's
abbrev pub buffer_left : Returned → List ℕ
buffer_left (listed r after list v) = list
buffer_left (changed r after v) = []
buffer_left (opened r slot key_length key v) = []
buffer_left (filled r buffer v) = buffer

-- the functions of the calls, and format's, on any image
pub record Demand1 (image : List ℕ) : Type 0 where
  -- "checks all it is given and ends, accepted or with a refusal number": that of the first check that fails, the header's before the call's, or 0
  pub number_is : (c : Call) (r : Returned) → Ensured image c r → number_in r ≡ first (header_checks built image ++ checks (facts_of built image) c)
  -- "After a refusal the image": add, change, revoke and write leave it; an opening and a read cannot change it, which they are lent shared
  pub image_stays : (c : Call) (r : Returned) → Ensured image c r → number_in r ≢ 0 → image_left image r ≡ image
  -- "and every lent buffer are unchanged": the list's of add, change and revoke, and a read's
  pub buffer_stays : (c : Call) (r : Returned) → Ensured image c r → number_in r ≢ 0 → buffer_left r ≡ buffer_of c
  -- "and no key byte is returned": an opening's slot, L and 64 key bytes are zero; no other call returns any
  pub no_key : (c : Call) → kind_of c ≡ opening → (r : Returned) → Ensured image c r → number_in r ≢ 0 → r ≡ opened (number_in r) 0 0 (zeros 64) (values_in r)
  -- the same for C, of the 66 bytes that an opening fills
  pub no_key_for_c : (c : Call) → kind_of c ≡ opening → (code : ℕ) (bytes : List ℕ) (v : ℕ) → FillsOpened built image c code bytes v → code ≢ 0 → bytes ≡ zeros 66
  -- and format
  pub format_number_is : (a : FormatInput) (code : ℕ) (after : List ℕ) (v : ℕ) → DoesFormat built a image code after v → code ≡ first (format_checks built a image)
  pub format_image_stays : (a : FormatInput) (code : ℕ) (after : List ℕ) (v : ℕ) → DoesFormat built a image code after v → code ≢ 0 → after ≡ image
