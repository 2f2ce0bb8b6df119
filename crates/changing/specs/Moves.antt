-- What a change does once its passphrase has opened the first slot, in the rules' words.
use Rattle.std.specs.Prelude.{◌≡◌, List, ◌++◌, ℕ}
use Rattle.rules.specs.Facts.{SlotInput}
use Rattle.rules.specs.Sectors.{encoded, slot_list}
use Rattle.rules.specs.Step.{written, enable_writes, disable_writes}
use Rattle.rules.specs.Lists.{enabled_image, disabled_image}
use Rattle.header.specs.Records.{facts_in}

-- the key in slot `to`, then slot `from` revoked; the list has both slots' writes, the first with the bytes of the image between
pub record Moves (image : List ℕ) (from to : ℕ) (key : List ℕ) (x : SlotInput) (filler after list : List ℕ) : Type 0 where
  pub image_is : after ≡ written (enable_writes (facts_in image) to key x ++ disable_writes (facts_in image) from filler) image
  pub list_is : list
      ≡ encoded (slot_list (facts_in image) to (enabled_image (facts_in image) to key x image)
      ++ slot_list (facts_in image) from (disabled_image (facts_in image) from filler (enabled_image (facts_in image) to key x image)))
