-- Document 01, "Cells in bytes" (RULES 3). Cells are bytes; their wits are a function from a wit's number to 0 or 1.
use Rattle.std.specs.Prelude.{ℕ, zero, suc, ◌+◌, ◌*◌, ◌-◌, ◌^◌, ◌/◌, ◌%◌, Bool, ◌&&◌, List, [], ◌∷◌, eqb, length, get_or}

-- "Wit w is bit 7 − (w mod 8)": order 0, the high bit first; order 1 is the low bit first
unfoldable pub bit_place : ℕ → ℕ → ℕ
bit_place zero w = 7 - w % 8
bit_place (suc order) w = w % 8

-- "of byte w div 8"
unfoldable pub wit : ℕ → List ℕ → ℕ → ℕ
wit order bytes w = get_or bytes (w / 8) 0 / 2 ^ bit_place order w % 2

-- "the first is the high bit of the group's value": the number that the n wits from w on make
unfoldable pub value : (ℕ → ℕ) → ℕ → ℕ → ℕ
value f w zero = 0
value f w (suc n) = 2 * value f w n + f (w + n)

-- "from 0": f i, f (i + 1), .., n of them
unfoldable pub listed : (ℕ → ℕ) → ℕ → ℕ → List ℕ
listed f i zero = []
listed f i (suc n) = f i ∷ listed f (suc i) n

-- 01, Writing; RULES 14: "add up": f 0 + .. + f (n − 1)
unfoldable pub sum : (ℕ → ℕ) → ℕ → ℕ
sum f zero = 0
sum f (suc n) = sum f n + f n

-- "Group j (from 0, called leftmost) takes wits m·j to m·j + m − 1"
unfoldable pub group : ℕ → (ℕ → ℕ) → ℕ → ℕ
group m f j = value f (m * j) m

-- the first h groups, leftmost first
unfoldable pub groups : ℕ → ℕ → (ℕ → ℕ) → List ℕ
groups m h f = listed (group m f) 0 h

-- 01, Cells in bytes; RULES 3: the groups in a buffer
abbrev pub opened : ℕ → ℕ → ℕ → List ℕ → List ℕ
opened order m h bytes = groups m h (wit order bytes)

-- "the least number of bytes that holds m·h_1 wits"
abbrev pub size : ℕ → ℕ → ℕ
size m h = (m * h + 7) / 8

-- "The buffer is exactly" so many bytes; "the bits left over are 0"
unfoldable pub sound : ℕ → ℕ → ℕ → List ℕ → Bool
sound order m h bytes = eqb (length bytes) (size m h) && eqb (value (wit order bytes) (m * h) (8 * length bytes - m * h)) 0

-- the same sentences backwards: wit w of groups of m wits, "the bits left over are 0"
unfoldable pub wit_of : ℕ → List ℕ → ℕ → ℕ
wit_of m gs w = get_or gs (w / m) 0 / 2 ^ (m - 1 - w % m) % 2

-- "Wit w is bit 7 − (w mod 8) of byte w div 8", backwards: byte i of wits
unfoldable pub byte_of : ℕ → (ℕ → ℕ) → ℕ → ℕ
byte_of order f i = sum (λ k. f (8 * i + k) * 2 ^ bit_place order k) 8

-- 01, Cells in bytes; RULES 3: the buffer of groups
unfoldable pub stored : ℕ → ℕ → List ℕ → List ℕ
stored order m gs = listed (byte_of order (wit_of m gs)) 0 (size m (length gs))

-- 01, Writing; RULES 14: "the number of ones in the cells"
unfoldable pub ones : ℕ → List ℕ → ℕ
ones order bytes = sum (wit order bytes) (8 * length bytes)

-- 01, Writing; RULES 6: "the count of wits turned from 0 to 1"
unfoldable pub turned : ℕ → List ℕ → List ℕ → ℕ
turned order before after = sum (λ w. wit order after w - wit order before w) (8 * length before)
