-- Frames, commands and lines (paper 01, "Frames"): the layout of each kind, the frame of a command, the command of a frame, and what a reader and a writer
-- give. Assumes nothing.
use Rattle.std.specs.Prelude.{Bool, cond, ◌&&◌, List, [], ◌∷◌, map, ℕ, ◌%◌, length, get_or, leb, eqb}
use Rattle.rules.specs.Command.{Header, Item, Command, Bank, Branch, Funding, Withdrawal, BankLimits, Payment, Change, Deletion, Query, Opening, Search, Letters, Mark, well_formed}
use Rattle.frame.specs.Hex.{all_hex, unhex}
use Rattle.frame.specs.Field.{Plain, Text, Word, Money, Field, Code, UpTo, Second, Free, Items, Conditions, Never, Row, Values, are_fields, all_bytes, all_values}

-- ---- the layout of each kind

pub data Kind : Type 0 where
  K01 K02 K03 K04 K05 K06 K07 K08 K09 K0a K0b K0c K13 : Kind

-- byte 0 is the kind
unfoldable pub kind_byte : Kind → ℕ
kind_byte K01 = 1
kind_byte K02 = 2
kind_byte K03 = 3
kind_byte K04 = 4
kind_byte K05 = 5
kind_byte K06 = 6
kind_byte K07 = 7
kind_byte K08 = 8
kind_byte K09 = 9
kind_byte K0a = 10
kind_byte K0b = 11
kind_byte K0c = 12
kind_byte K13 = 19

-- H is the header: C, 32 bytes of id, day, second
abbrev pub headed : List Field → List Field
headed fs = Code ∷ Free (Text 32) ∷ Free (Word 4) ∷ Second ∷ fs

-- a change's item: 10 bytes of account id, type, value
abbrev pub item_row : List Plain
item_row = Text 10 ∷ Word 1 ∷ Money ∷ []

abbrev pub id_row : List Plain
id_row = Text 10 ∷ []

-- the fields behind the kind
unfoldable pub fields_of : Kind → List Field
fields_of K01 = Code ∷ []
fields_of K02 = Code ∷ Code ∷ UpTo 3 ∷ UpTo 3 ∷ []
fields_of K03 = Code ∷ Free Money ∷ []
fields_of K04 = Code ∷ Free Money ∷ []
fields_of K05 = Code ∷ Free Money ∷ Free Money ∷ []
fields_of K06 = UpTo 1 ∷ Code ∷ Code ∷ Free Money ∷ []
fields_of K07 = headed (Items item_row ∷ [])
fields_of K08 = headed (Free (Text 10) ∷ Free (Word 1) ∷ [])
fields_of K09 = headed (Items id_row ∷ [])
fields_of K0a = Free (Word 4) ∷ []
fields_of K0b = headed (Conditions ∷ [])
fields_of K0c = Code ∷ UpTo 31 ∷ []
fields_of K13 = Code ∷ []

unfoldable pub kinds : List Kind
kinds = K01 ∷ K02 ∷ K03 ∷ K04 ∷ K05 ∷ K06 ∷ K07 ∷ K08 ∷ K09 ∷ K0a ∷ K0b ∷ K0c ∷ K13 ∷ []

-- those of some kinds whose byte n is
unfoldable pub with_byte : ℕ → List Kind → List Kind
with_byte n [] = []
with_byte n (k ∷ ks) = cond (eqb (kind_byte k) n) (k ∷ with_byte n ks) (with_byte n ks)

-- the kind that a byte is, or none
unfoldable pub kinds_at : ℕ → List Kind
unfolding kind_byte kinds with_byte
kinds_at n = with_byte n kinds

-- the fields of a kind; where there is none, none that bytes could be
unfoldable pub layout_of : List Kind → List Field
layout_of [] = Never ∷ []
layout_of (k ∷ ks) = fields_of k

-- the fields that the kind byte chooses
unfoldable pub layout : ℕ → List Field
unfolding kinds_at layout_of
layout n = layout_of (kinds_at n)

-- well-formed: the bytes behind the kind byte are the kind's fields and no more
unfoldable pub is_frame : List ℕ → Bool
is_frame b = are_fields (layout (get_or b 0 0)) b 1

-- ---- a command and the values of its fields

unfoldable pub kind_of : Command → Kind
kind_of (Bank c) = K01
kind_of (Branch c o l p) = K02
kind_of (Funding c a) = K03
kind_of (Withdrawal c a) = K04
kind_of (BankLimits c l p) = K05
kind_of (Payment w s r a) = K06
kind_of (Change h is) = K07
kind_of (Deletion h i t) = K08
kind_of (Query h is) = K09
kind_of (Opening d) = K0a
kind_of (Search h cs) = K0b
kind_of (Letters c l) = K0c
kind_of (Mark c) = K13

unfoldable pub item_values : Item → Row item_row
item_values i = (i.account, (i.type, (i.value, tt)))

unfoldable pub id_values : List ℕ → Row id_row
id_values i = (i, tt)

unfoldable pub values_of : (c : Command) → Values (fields_of (kind_of c))
unfolding fields_of kind_of
values_of (Bank c) = (c, tt)
values_of (Branch c o l p) = (c, (o, (l, (p, tt))))
values_of (Funding c a) = (c, (a, tt))
values_of (Withdrawal c a) = (c, (a, tt))
values_of (BankLimits c l p) = (c, (l, (p, tt)))
values_of (Payment w s r a) = (w, (s, (r, (a, tt))))
values_of (Change h is) = (h.sender, (h.id, (h.moment.day, (h.moment.second, (map item_values is, tt)))))
values_of (Deletion h i t) = (h.sender, (h.id, (h.moment.day, (h.moment.second, (i, (t, tt))))))
values_of (Query h is) = (h.sender, (h.id, (h.moment.day, (h.moment.second, (map id_values is, tt)))))
values_of (Opening d) = (d, tt)
values_of (Search h cs) = (h.sender, (h.id, (h.moment.day, (h.moment.second, (cs, tt)))))
values_of (Letters c l) = (c, (l, tt))
values_of (Mark c) = (c, tt)

abbrev pub header_of : ℕ → List ℕ → ℕ → ℕ → Header
header_of sender id day second = record { sender = sender; id = id; moment = record { day = day; second = second } }

unfoldable pub item_of : Row item_row → Item
item_of r = record { account = r.0; type = r.1.0; value = r.1.1.0 }

unfoldable pub id_of : Row id_row → List ℕ
id_of r = r.0

unfoldable pub command_of : (k : Kind) → Values (fields_of k) → Command
unfolding fields_of
command_of K01 v = Bank v.0
command_of K02 v = Branch v.0 v.1.0 v.1.1.0 v.1.1.1.0
command_of K03 v = Funding v.0 v.1.0
command_of K04 v = Withdrawal v.0 v.1.0
command_of K05 v = BankLimits v.0 v.1.0 v.1.1.0
command_of K06 v = Payment v.0 v.1.0 v.1.1.0 v.1.1.1.0
command_of K07 v = Change (header_of v.0 v.1.0 v.1.1.0 v.1.1.1.0) (map item_of v.1.1.1.1.0)
command_of K08 v = Deletion (header_of v.0 v.1.0 v.1.1.0 v.1.1.1.0) v.1.1.1.1.0 v.1.1.1.1.1.0
command_of K09 v = Query (header_of v.0 v.1.0 v.1.1.0 v.1.1.1.0) (map id_of v.1.1.1.1.0)
command_of K0a v = Opening v.0
command_of K0b v = Search (header_of v.0 v.1.0 v.1.1.0 v.1.1.1.0) v.1.1.1.1.0
command_of K0c v = Letters v.0 v.1.0
command_of K13 v = Mark v.0

-- ---- the frame of a command, and the command of a frame

unfoldable pub frame_of : Command → List ℕ
frame_of c = kind_byte (kind_of c) ∷ all_bytes (fields_of (kind_of c)) (values_of c)

-- the command of a kind, its values read off bytes
abbrev pub command_in : List ℕ → Kind → Command
command_in b k = command_of k (all_values (fields_of k) b 1)

-- the command that bytes hold, or none
unfoldable pub commands_of : List ℕ → List Command
commands_of b = cond (is_frame b) (map (command_in b) (kinds_at (get_or b 0 0))) []

-- ---- what a reader and a writer give: the frame, or nothing where they refuse

-- of a line: hexadecimal digits, an even number of them, whose bytes are a frame
unfoldable pub line_frame : List ℕ → List ℕ
line_frame line = cond ((eqb (length line % 2) 0 && all_hex line) && is_frame (unhex line)) (unhex line) []

-- a frame buffer has at least 352 bytes
unfoldable pub given : ℕ → List ℕ → List ℕ
given room frame = cond (leb 352 room) frame []

unfoldable pub read_frame : List ℕ → ℕ → List ℕ
read_frame line room = given room (line_frame line)

-- of a command, where there is one
unfoldable pub command_frame : List Command → List ℕ
command_frame [] = []
command_frame (c ∷ cs) = cond (well_formed c) (frame_of c) []

unfoldable pub write_frame : List Command → ℕ → List ℕ
write_frame cs room = given room (command_frame cs)
