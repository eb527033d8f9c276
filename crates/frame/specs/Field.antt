-- The fields of a frame (paper 01, "Frames"). One description gives each field's width, what its bytes may be, the value they stand for, and the bytes of a
-- value. Assumes nothing.
use Rattle.std.specs.Prelude.{Bool, true, false, ◌&&◌, List, [], ◌∷◌, ◌++◌, ℕ, zero, suc, ◌+◌, ◌*◌, ◌^◌, length, take, drop, get_or, ℤ, leb, ltb, eqb}
use Rattle.octets.specs.Octets.{big_endian, number, is_bytes, signed, is_money, money, part}
use Rattle.rules.specs.Command.{Condition, is_code, is_count, every, is_condition, is_few}
use Rattle.rules.specs.Message.{decimal, digits}
use Rattle.frame_fields.specs.Place.{six_digits, word_at}
use Rattle.frame_fields.specs.Conditions.{conditions_in, conditions_width, are_conditions}

-- a field that takes any bytes
pub data Plain : Type 0 where
  Text : ℕ → Plain  -- so many bytes as they are
  Word : ℕ → Plain  -- an unsigned number in so many bytes, high byte first
  Money : Plain  -- M: 8 bytes, signed, high byte first

pub data Field : Type 0 where
  Code : Field  -- C: six ASCII digits
  UpTo : ℕ → Field  -- one byte, at most this
  Second : Field  -- 4 bytes, at most 86,399
  Free : Plain → Field
  Items : List Plain → Field  -- a count of 1 to 16, and so many rows of these
  Conditions : Field  -- a count of 1 to 8, and so many conditions
  Never : Field  -- no bytes are such a field

-- ---- widths

unfoldable pub size : Plain → ℕ
size (Text k) = k
size (Word k) = k
size Money = 8

unfoldable pub row_size : List Plain → ℕ
row_size [] = 0
row_size (p ∷ ps) = size p + row_size ps

-- of the field that begins at the place i of a frame
unfoldable pub width : Field → List ℕ → ℕ → ℕ
width Code b i = 6
width (UpTo m) b i = 1
width Second b i = 4
width (Free p) b i = size p
width (Items ps) b i = 1 + get_or b i 0 * row_size ps
width Conditions b i = 1 + conditions_width (get_or b i 0) (drop (i + 1) b)
width Never b i = 0

-- ---- what the bytes may be

-- the field that begins at the place i
unfoldable pub may : Field → List ℕ → ℕ → Bool
may Code b i = six_digits b i
may (UpTo m) b i = leb (get_or b i 0) m
may Second b i = leb (word_at b i) 86399
may (Free p) b i = true
may (Items ps) b i = is_count (get_or b i 0)
may Conditions b i = is_few (get_or b i 0) && are_conditions (get_or b i 0) (drop (i + 1) b)
may Never b i = false

-- ---- values

abbrev pub PlainValue : Plain → Type 0
PlainValue (Text k) = List ℕ
PlainValue (Word k) = ℕ
PlainValue Money = ℤ

abbrev pub Row : List Plain → Type 0
Row [] = Unit {0}
Row (p ∷ ps) = PlainValue p × Row ps

abbrev pub Value : Field → Type 0
Value Code = ℕ
Value (UpTo m) = ℕ
Value Second = ℕ
Value (Free p) = PlainValue p
Value (Items ps) = List (Row ps)
Value Conditions = List Condition
Value Never = Unit {0}

-- ---- values that have a place in the field

unfoldable pub plain_fits : (p : Plain) → PlainValue p → Bool
plain_fits (Text k) l = is_bytes k l
plain_fits (Word k) n = ltb n (256 ^ k)
plain_fits Money z = is_money z

unfoldable pub row_fits : (ps : List Plain) → Row ps → Bool
row_fits [] r = true
row_fits (p ∷ ps) r = plain_fits p r.0 && row_fits ps r.1

unfoldable pub fits : (f : Field) → Value f → Bool
fits Code c = is_code c
fits (UpTo m) n = leb n m
fits Second n = leb n 86399
fits (Free p) v = plain_fits p v
fits (Items ps) rs = is_count (length rs) && every (row_fits ps) rs
fits Conditions cs = is_few (length cs) && every is_condition cs
fits Never v = false

-- ---- the bytes of a value

unfoldable pub plain_bytes : (p : Plain) → PlainValue p → List ℕ
plain_bytes (Text k) l = l
plain_bytes (Word k) n = big_endian k n
plain_bytes Money z = money z

unfoldable pub row_bytes : (ps : List Plain) → Row ps → List ℕ
row_bytes [] r = []
row_bytes (p ∷ ps) r = plain_bytes p r.0 ++ row_bytes ps r.1

unfoldable pub rows_bytes : (ps : List Plain) → List (Row ps) → List ℕ
rows_bytes ps [] = []
rows_bytes ps (r ∷ rs) = row_bytes ps r ++ rows_bytes ps rs

-- a mode, a length and that much text
unfoldable pub condition_bytes : Condition → List ℕ
condition_bytes c = c.mode ∷ length c.text ∷ c.text

unfoldable pub conditions_bytes : List Condition → List ℕ
conditions_bytes [] = []
conditions_bytes (c ∷ cs) = condition_bytes c ++ conditions_bytes cs

unfoldable pub bytes_of : (f : Field) → Value f → List ℕ
bytes_of Code c = digits 6 c
bytes_of (UpTo m) n = n ∷ []
bytes_of Second n = big_endian 4 n
bytes_of (Free p) v = plain_bytes p v
bytes_of (Items ps) rs = length rs ∷ rows_bytes ps rs
bytes_of Conditions cs = length cs ∷ conditions_bytes cs
bytes_of Never v = []

-- ---- the value of bytes

unfoldable pub plain_value : (p : Plain) → List ℕ → PlainValue p
plain_value (Text k) bs = bs
plain_value (Word k) bs = number bs
plain_value Money bs = signed (number bs)

unfoldable pub row_value : (ps : List Plain) → List ℕ → Row ps
row_value [] bs = tt
row_value (p ∷ ps) bs = (plain_value p (take (size p) bs), row_value ps (drop (size p) bs))

unfoldable pub rows_value : (ps : List Plain) → ℕ → List ℕ → List (Row ps)
rows_value ps zero bs = []
rows_value ps (suc n) bs = row_value ps (take (row_size ps) bs) ∷ rows_value ps n (drop (row_size ps) bs)

unfoldable pub value_of : (f : Field) → List ℕ → Value f
value_of Code bs = decimal 0 bs
value_of (UpTo m) bs = get_or bs 0 0
value_of Second bs = number bs
value_of (Free p) bs = plain_value p bs
value_of (Items ps) bs = rows_value ps (get_or bs 0 0) (drop 1 bs)
value_of Conditions bs = conditions_in (get_or bs 0 0) (drop 1 bs)
value_of Never bs = tt

-- ---- a list of fields, one after the other

-- the bytes from the place i on are these fields and no more
unfoldable pub are_fields : List Field → List ℕ → ℕ → Bool
are_fields [] b i = eqb (length b) i
are_fields (f ∷ fs) b i = may f b i && are_fields fs b (i + width f b i)

abbrev pub Values : List Field → Type 0
Values [] = Unit {0}
Values (f ∷ fs) = Value f × Values fs

unfoldable pub all_fit : (fs : List Field) → Values fs → Bool
all_fit [] v = true
all_fit (f ∷ fs) v = fits f v.0 && all_fit fs v.1

unfoldable pub all_bytes : (fs : List Field) → Values fs → List ℕ
all_bytes [] v = []
all_bytes (f ∷ fs) v = bytes_of f v.0 ++ all_bytes fs v.1

unfoldable pub all_values : (fs : List Field) → List ℕ → ℕ → Values fs
all_values [] b i = tt
all_values (f ∷ fs) b i = (value_of f (part i (width f b i) b), all_values fs b (i + width f b i))
