-- An example: a list of calls on a drive of the small suite: each call with the answer that 01 asks for, and the number of Wish 6 of 02.
use mathlib.Core.List.{List, [], ◌∷◌, ◌++◌, map, flatten}
use Rattle.std.specs.Prelude.{ℕ, ◌*◌, replicate}
use Rattle.octets.specs.Octets.{zeros}
use Rattle.rules.specs.Facts.{SlotInput, slot_input}
use Rattle.rules.specs.Calls.{Call, add, change, revoke, open_slot, open_any, read, write, Answer}
use Rattle.rules.specs.Format.{FormatInput}
use Rattle.screens.specs.Screens.{Screen, Details}
use Rattle.ledger.specs.Ledger.{Ledger, empty, live, at_format, last_writing}

-- ---- arguments

-- n bytes b
unfoldable pub bytes : ℕ → ℕ → List ℕ
bytes n b = replicate n b

-- the master key
unfoldable pub the_key : List ℕ
the_key = 1 ∷ 2 ∷ 3 ∷ 4 ∷ 5 ∷ 6 ∷ 7 ∷ 8 ∷ 9 ∷ 10 ∷ 11 ∷ 12 ∷ 13 ∷ 14 ∷ 15 ∷ 16 ∷ []

-- another key of the same length, with another checksum
unfoldable pub other_key : List ℕ
other_key = 2 ∷ 3 ∷ 4 ∷ 5 ∷ 6 ∷ 7 ∷ 8 ∷ 9 ∷ 10 ∷ 11 ∷ 12 ∷ 13 ∷ 14 ∷ 15 ∷ 16 ∷ 17 ∷ []

-- a key with the checksum of the master key: the same bytes, the last first
unfoldable pub twin_key : List ℕ
twin_key = 16 ∷ 15 ∷ 14 ∷ 13 ∷ 12 ∷ 11 ∷ 10 ∷ 9 ∷ 8 ∷ 7 ∷ 6 ∷ 5 ∷ 4 ∷ 3 ∷ 2 ∷ 1 ∷ []

-- a key that is too short
unfoldable pub short_key : List ℕ
short_key = 1 ∷ 2 ∷ 3 ∷ []

-- "one"
unfoldable pub one : List ℕ
one = 0x6F ∷ 0x6E ∷ 0x65 ∷ []

-- "two"
unfoldable pub two : List ℕ
two = 0x74 ∷ 0x77 ∷ 0x6F ∷ []

-- "three"
unfoldable pub three : List ℕ
three = 0x74 ∷ 0x68 ∷ 0x72 ∷ 0x65 ∷ 0x65 ∷ []

-- "eight"
unfoldable pub eight : List ℕ
eight = 0x65 ∷ 0x69 ∷ 0x67 ∷ 0x68 ∷ 0x74 ∷ []

-- "wrong"
unfoldable pub wrong : List ℕ
wrong = 0x77 ∷ 0x72 ∷ 0x6F ∷ 0x6E ∷ 0x67 ∷ []

-- what makes a slot live: a salt of bytes b, and one random stripe
unfoldable pub slot_with : List ℕ → ℕ → ℕ → List ℕ → SlotInput
slot_with passphrase b count random = slot_input passphrase (bytes 32 b) count random

-- a stripe of random bytes
unfoldable pub stripe : List ℕ
stripe = 200 ∷ 17 ∷ 5 ∷ 99 ∷ 0 ∷ 255 ∷ 128 ∷ 64 ∷ 31 ∷ 2 ∷ 77 ∷ 140 ∷ 250 ∷ 8 ∷ 43 ∷ 1 ∷ []

-- the buffer that is lent for the list of an add or a revoke: one sector of the area and two of the header, 516 bytes each
unfoldable pub slot_buffer : List ℕ
slot_buffer = bytes 1548 0

-- and for that of a change
unfoldable pub change_buffer : List ℕ
change_buffer = bytes 3096 0

-- profile 1, two stripes
unfoldable pub input : FormatInput
input = record { profile = 1; stripes = 2; key = the_key; salt = bytes 32 3; count = 2; uuid = bytes 36 0x61 }

-- 70 sectors: 65 up to the end of area 8, three before the payload, and two of it, one of bytes 6 and one of bytes 9
unfoldable pub image : List ℕ
image = bytes (68 * 512) 7 ++ (bytes 512 6 ++ bytes 512 9)

-- ---- answers

-- an open of slot k that gives the key, and zeros to 64 bytes
unfoldable pub gave_key : ℕ → Answer
gave_key k =
    record {
      code = 0;
      slot = k;
      key_length = 16;
      key = 1 ∷ 2 ∷ 3 ∷ 4 ∷ 5 ∷ 6 ∷ 7 ∷ 8 ∷ 9 ∷ 10 ∷ 11 ∷ 12 ∷ 13 ∷ 14 ∷ 15 ∷ 16 ∷ zeros 48;
      bytes = [];
    }

-- an open of slot k that gives the other key with the checksum
unfoldable pub gave_twin : ℕ → Answer
gave_twin k =
    record {
      code = 0;
      slot = k;
      key_length = 16;
      key = 16 ∷ 15 ∷ 14 ∷ 13 ∷ 12 ∷ 11 ∷ 10 ∷ 9 ∷ 8 ∷ 7 ∷ 6 ∷ 5 ∷ 4 ∷ 3 ∷ 2 ∷ 1 ∷ zeros 48;
      bytes = [];
    }

-- an open that is refused
unfoldable pub no_open : ℕ → Answer
no_open r = record { code = r; slot = 0; key_length = 0; key = zeros 64; bytes = [] }

-- another call: its number and what it read
unfoldable pub said : ℕ → List ℕ → Answer
said r x = record { code = r; slot = 0; key_length = 0; key = []; bytes = x }

-- ---- the list

-- the calls, each with its answer and with the number of HMAC values that it makes: 8 for the checksum, 3 for each of a slot's count
unfoldable pub answered : List (Call × Answer × ℕ)
answered =
    (open_any one, no_open 17, 0)  -- no slot is enabled
    ∷ (open_any [], no_open 14, 0)
    ∷ (add 9 the_key (slot_with one 1 2 stripe) slot_buffer, said 13 [], 0)
    ∷ (add 1 short_key (slot_with one 1 2 stripe) slot_buffer, said 9 [], 0)
    ∷ (add 1 the_key (slot_with [] 1 2 stripe) slot_buffer, said 14 [], 0)
    ∷ (add 1 the_key (slot_with one 1 1 stripe) slot_buffer, said 10 [], 0)
    ∷ (add 1 the_key (slot_with one 1 2 []) slot_buffer, said 16 [], 0)
    ∷ (add 1 the_key (slot_with one 1 2 []) [], said 16 [], 0)  -- 16 before 20
    ∷ (add 1 the_key (slot_with one 1 2 stripe) [], said 20 [], 0)
    ∷ (add 1 the_key (slot_with one 1 2 stripe) change_buffer, said 20 [], 0)
    ∷ (add 1 other_key (slot_with one 1 2 stripe) (bytes 1547 0), said 20 [], 0)  -- one byte short, and 20 before 17
    ∷ (add 1 other_key (slot_with one 1 2 stripe) slot_buffer, said 17 [], 8)
    ∷ (add 1 the_key (slot_with one 1 2 stripe) slot_buffer, said 0 [], 14)  -- slot 1 is live
    ∷ (add 1 the_key (slot_with one 1 2 stripe) slot_buffer, said 15 [], 0)
    ∷ (open_slot 1 one, gave_key 1, 14)
    ∷ (open_slot 9 one, no_open 13, 0)
    ∷ (open_slot 1 [], no_open 14, 0)
    ∷ (open_slot 2 one, no_open 15, 0)
    ∷ (open_slot 1 wrong, no_open 17, 14)
    ∷ (open_any one, gave_key 1, 14)
    ∷ (revoke 1 (bytes 32 4) slot_buffer, said 18 [], 0)  -- the only slot
    ∷ (change 1 one 0 (slot_with three 2 3 stripe) (bytes 32 4) change_buffer, said 13 [], 0)
    ∷ (change 9 one 3 (slot_with three 2 3 stripe) (bytes 32 4) change_buffer, said 13 [], 0)
    ∷ (change 1 one 1 (slot_with three 2 3 stripe) (bytes 32 4) change_buffer, said 15 [], 0)
    ∷ (change 2 one 3 (slot_with three 2 3 stripe) (bytes 32 4) change_buffer, said 15 [], 0)
    ∷ (change 1 [] 3 (slot_with three 2 3 stripe) (bytes 32 4) change_buffer, said 14 [], 0)
    ∷ (change 1 one 3 (slot_with [] 2 3 stripe) (bytes 32 4) change_buffer, said 14 [], 0)
    ∷ (change 1 one 3 (slot_with three 2 1 stripe) (bytes 32 4) change_buffer, said 10 [], 0)
    ∷ (change 1 one 3 (slot_with three 2 3 (bytes 32 5)) (bytes 32 4) change_buffer, said 16 [], 0)
    ∷ (change 1 one 3 (slot_with three 2 3 stripe) (bytes 16 4) change_buffer, said 16 [], 0)
    ∷ (change 1 one 3 (slot_with three 2 3 stripe) (bytes 16 4) slot_buffer, said 16 [], 0)  -- 16 before 20
    ∷ (change 1 one 3 (slot_with three 2 3 stripe) (bytes 32 4) slot_buffer, said 20 [], 0)
    ∷ (change 1 wrong 3 (slot_with three 2 3 stripe) (bytes 32 4) (bytes 3095 0), said 20 [], 0)  -- one byte short, and 20 before 17
    ∷ (change 1 wrong 3 (slot_with three 2 3 stripe) (bytes 32 4) change_buffer, said 17 [], 14)
    ∷ (change 1 one 3 (slot_with three 2 3 stripe) (bytes 32 4) change_buffer, said 0 [], 23)  -- slot 3 in place of slot 1
    ∷ (open_slot 1 one, no_open 15, 0)
    ∷ (open_slot 3 three, gave_key 3, 17)
    ∷ (open_any one, no_open 17, 17)
    ∷ (add 5 twin_key (slot_with two 6 4 stripe) slot_buffer, said 0 [], 20)  -- another key with the checksum,
    ∷ (open_slot 5 two, gave_twin 5, 20)  -- and the slot holds that key,
    ∷ (change 5 two 2 (slot_with two 9 2 stripe) (bytes 32 11) change_buffer, said 0 [], 26)  -- and slot 2 after it
    ∷ (open_slot 2 two, gave_twin 2, 14)
    ∷ (write short_key 1 1 (bytes 512 0x2A), said 9 [], 0)
    ∷ (write the_key 1 2 (bytes 1024 0x2A), said 19 [], 0)  -- the payload has two units
    ∷ (write the_key 1 1 (bytes 511 0x2A), said 20 [], 0)
    ∷ (write other_key 1 1 (bytes 512 0x2A), said 17 [], 8)
    ∷ (read the_key 1 1 (bytes 512 0), said 0 (bytes 512 11), 8)  -- 9 xor (1 + 1): what stood there before
    ∷ (write the_key 1 1 (bytes 512 0x2A), said 0 [], 8)
    ∷ (read the_key 1 1 (bytes 512 0), said 0 (bytes 512 0x2A), 8)  -- as it was written
    ∷ (read the_key 0 2 (bytes 1024 0), said 0 (bytes 512 7 ++ bytes 512 0x2A), 8)  -- 6 xor 1, and the unit written
    ∷ (read the_key 2 0 [], said 0 [], 8)  -- 0 units at the payload's end
    ∷ (read short_key 1 1 (bytes 512 0), said 9 [], 0)
    ∷ (read the_key 2 1 (bytes 512 0), said 19 [], 0)
    ∷ (read the_key 1 1 (bytes 513 0), said 20 [], 0)
    ∷ (read other_key 1 1 (bytes 512 0), said 17 [], 8)
    ∷ (add 8 the_key (slot_with eight 7 2 stripe) slot_buffer, said 0 [], 14)  -- slots 2, 3 and 8 are live
    ∷ (revoke 0 (bytes 32 8) slot_buffer, said 13 [], 0)
    ∷ (revoke 3 (bytes 31 8) slot_buffer, said 16 [], 0)
    ∷ (revoke 3 (bytes 31 8) (bytes 1547 0), said 16 [], 0)  -- 16 before 20
    ∷ (revoke 3 (bytes 32 8) (bytes 1547 0), said 20 [], 0)
    ∷ (revoke 3 (bytes 32 8) [], said 20 [], 0)
    ∷ (revoke 3 (bytes 32 8) slot_buffer, said 0 [], 0)  -- slots 2 and 8
    ∷ (revoke 3 (bytes 32 8) slot_buffer, said 15 [], 0)
    ∷ (open_any three, no_open 17, 28)
    ∷ (open_any eight, gave_key 8, 28)
    ∷ (open_any two, gave_twin 2, 14)
    ∷ []

-- the calls alone
unfoldable pub calls : List Call
calls = map (λ w. w.0) answered

-- the answers alone
unfoldable pub expected : List Answer
expected = map (λ w. w.1) answered

-- the numbers alone
unfoldable pub numbers : List ℕ
numbers = map (λ w. w.2) answered

-- ---- the end of the list

-- what the ledger holds then
unfoldable pub end_ledger : Ledger
end_ledger =
    record {
      input = input;
      slot_entries =
          empty (bytes 32 4)  -- the filler of the first change
          ∷ live twin_key (slot_with two 9 2 stripe)
          ∷ empty (bytes 32 8)  -- the filler of the revoke
          ∷ empty (zeros 32)
          ∷ empty (bytes 32 11)  -- the filler of the second change
          ∷ empty (zeros 32)
          ∷ empty (zeros 32)
          ∷ live the_key (slot_with eight 7 2 stripe)
          ∷ [];
      sector_entries = at_format (bytes 512 6) ∷ last_writing the_key (bytes 512 0x2A) ∷ [];
    }

-- the record of a disabled slot; start is its area's, in sectors
unfoldable pub disabled_record : ℕ → List ℕ
disabled_record start = 0x00 ∷ 0x00 ∷ 0xDE ∷ 0xAD ∷ zeros 36 ++ 0 ∷ 0 ∷ 0 ∷ start ∷ 0 ∷ 0 ∷ 0 ∷ 2 ∷ []

-- the record of an enabled slot with count 2 and a salt of bytes b
unfoldable pub enabled_record : ℕ → ℕ → List ℕ
enabled_record b start = 0x00 ∷ 0xAC ∷ 0x71 ∷ 0xF3 ∷ 0 ∷ 0 ∷ 0 ∷ 2 ∷ bytes 32 b ++ 0 ∷ 0 ∷ 0 ∷ start ∷ 0 ∷ 0 ∷ 0 ∷ 2 ∷ []

-- the area of slot 2: the stripe, then (the stripe + 1) xor the slot's key, each byte xor the mask, 124 = (346 + 32 × 9 + 2) mod 256
unfoldable pub end_area2 : List ℕ
end_area2 =
    180 ∷ 109 ∷ 121 ∷ 31 ∷ 124 ∷ 131 ∷ 252 ∷ 60 ∷ 99 ∷ 126 ∷ 49 ∷ 240 ∷ 134 ∷ 116 ∷ 87 ∷ 125
    ∷ 165 ∷ 97 ∷ 116 ∷ 21 ∷ 113 ∷ 119 ∷ 247 ∷ 52 ∷ 84 ∷ 120 ∷ 52 ∷ 244 ∷ 131 ∷ 118 ∷ 82 ∷ 127 ∷ []

-- that of slot 8: its mask is 243 = (529 + 32 × 7 + 2) mod 256
unfoldable pub end_area8 : List ℕ
end_area8 =
    59 ∷ 226 ∷ 246 ∷ 144 ∷ 243 ∷ 12 ∷ 115 ∷ 179 ∷ 236 ∷ 241 ∷ 190 ∷ 127 ∷ 9 ∷ 251 ∷ 216 ∷ 242
    ∷ 59 ∷ 227 ∷ 246 ∷ 147 ∷ 247 ∷ 245 ∷ 117 ∷ 186 ∷ 218 ∷ 250 ∷ 182 ∷ 114 ∷ 5 ∷ 244 ∷ 208 ∷ 225 ∷ []

-- the image, written out by 01's offsets
unfoldable pub end_bytes : List ℕ
end_bytes =
    flatten
    (
    (0x4C ∷ 0x55 ∷ 0x4B ∷ 0x53 ∷ 0xBA ∷ 0xBE ∷ 0 ∷ 1 ∷ [])  -- 0: magic, version
    ∷ (0x73 ∷ zeros 31)  -- 8: cipher name
    ∷ (0x6D ∷ zeros 31)  -- 40: cipher mode
    ∷ (0x68 ∷ zeros 31)  -- 72: hash
    ∷ (0 ∷ 0 ∷ 0 ∷ 68 ∷ 0 ∷ 0 ∷ 0 ∷ 16 ∷ [])  -- 104: payload start, key bytes
    ∷ bytes 20 234  -- 112: checksum, (1 + .. + 16 + 32 × 3 + 2) mod 256
    ∷ bytes 32 3  -- 132: checksum salt
    ∷ (0 ∷ 0 ∷ 0 ∷ 2 ∷ [])  -- 164: checksum count
    ∷ bytes 36 0x61  -- 168: UUID, 40 bytes with its zeros
    ∷ zeros 4
    ∷ disabled_record 8  -- 208: the slots' records
    ∷ enabled_record 9 16
    ∷ disabled_record 24
    ∷ disabled_record 32
    ∷ disabled_record 40
    ∷ disabled_record 48
    ∷ disabled_record 56
    ∷ enabled_record 7 64
    ∷ zeros 3504  -- 592
    ∷ bytes 32 4  -- 4096: area 1
    ∷ zeros 4064
    ∷ end_area2  -- 8192: area 2
    ∷ zeros 4064
    ∷ bytes 32 8  -- 12288: area 3
    ∷ zeros 8160
    ∷ bytes 32 11  -- 20480: area 5
    ∷ zeros 12256
    ∷ end_area8  -- 32768: area 8
    ∷ zeros 480
    ∷ zeros 1536  -- 33280: between area 8 and the payload
    ∷ bytes 512 6  -- 34816: the payload
    ∷ bytes 512 0x28  -- 0x2A xor (1 + 1)
    ∷ [])

-- ---- its screens: slots 2 and 8 are enabled

-- an entry of the second screen
unfoldable pub shows : ℕ → ℕ → ℕ → ℕ → Details
shows enabled count start stripes = record { enabled = enabled; count = count; start = start; stripes = stripes }

-- the first screen
unfoldable pub end_slots : Screen ℕ
end_slots = record { code = 0; entries = 0 ∷ 1 ∷ 0 ∷ 0 ∷ 0 ∷ 0 ∷ 0 ∷ 1 ∷ [] }

-- the second
unfoldable pub end_details : Screen Details
end_details =
    record {
      code = 0;
      entries = shows 0 0 8 2 ∷ shows 1 2 16 2 ∷ shows 0 0 24 2 ∷ shows 0 0 32 2 ∷ shows 0 0 40 2 ∷ shows 0 0 48 2 ∷ shows 0 0 56 2 ∷ shows 1 2 64 2 ∷ [];
    }

-- ---- other calls with the same end, after a format of another image

-- zeros before the payload, and the same payload
unfoldable pub other_image : List ℕ
other_image = zeros (68 * 512) ++ (bytes 512 6 ++ bytes 512 9)

-- other passphrases, salts and counts in the slots that end empty, no change, another order
unfoldable pub fewer_calls : List Call
fewer_calls =
    add 8 the_key (slot_with eight 7 2 stripe) slot_buffer
    ∷ add 5 the_key (slot_with one 5 9 stripe) slot_buffer
    ∷ revoke 5 (bytes 32 11) slot_buffer
    ∷ add 3 the_key (slot_with three 1 3 stripe) slot_buffer
    ∷ revoke 3 (bytes 32 8) slot_buffer
    ∷ add 1 the_key (slot_with wrong 6 2 stripe) slot_buffer
    ∷ revoke 1 (bytes 32 4) slot_buffer
    ∷ write the_key 1 1 (bytes 512 0x2A)
    ∷ add 2 twin_key (slot_with two 9 2 stripe) slot_buffer
    ∷ []
