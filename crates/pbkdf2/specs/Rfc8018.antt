-- Deriving gives the bytes of RFC 8018, section 5.2 (02, Wish 1: "proved once for any digest length from 20 to 64, and each hash cites that").
use Rattle.std.specs.Prelude.{◌≡◌, List, ◌++◌, ℕ, ◌-◌, ◌*◌, ◌≤◌, take}
use Rattle.octets.specs.Octets.{be32}
use Rattle.octets.specs.Pieces.{piece_count}
use Rattle.digest.specs.Digest.{Digest}
use Rattle.hmac.specs.Hmac.{hmac}
use Rattle.pbkdf2.specs.Pbkdf2.{F, laid, pbkdf2, iterates, xor_all}

pub record Rfc8018 (H : Digest) : Type 0 where
  -- step 3: "T_i = F (P, S, c, i)", which is "U_1 \xor U_2 \xor ... \xor U_c"
  pub block_is : (p s : List ℕ) (c i : ℕ) → 1 ≤ c → F H p s c i ≡ xor_all (iterates (hmac H p) (hmac H p (s ++ be32 i)) c)
  -- steps 2 and 4: "DK = T_1 || T_2 || ... || T_l<0..r-1>", where "l = CEIL (dkLen / hLen)" and "r = dkLen - (l - 1) * hLen"
  pub key_is : (p s : List ℕ) (c n : ℕ) → 1 ≤ n
      → pbkdf2 H p s c n
      ≡ laid (F H p s c) (piece_count H.size n - 1) ++ take (n - (piece_count H.size n - 1) * H.size) (F H p s c (piece_count H.size n))
  -- blocks that are these, whatever made them, laid one after the other and cropped, are the derived key
  pub blocks_give : (p s : List ℕ) (c n : ℕ) (T : ℕ → List ℕ) → ((i : ℕ) → 1 ≤ i → i ≤ piece_count H.size n → T i ≡ F H p s c i)
      → take n (laid T (piece_count H.size n)) ≡ pbkdf2 H p s c n
