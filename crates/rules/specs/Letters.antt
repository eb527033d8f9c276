-- Blocking letters and the central bank (paper 02, request b): which letters stand on an account, when they let a payment pass, and how a report shows them.
-- Assumes nothing.
use Rattle.std.specs.Prelude.{Bool, not, cond, ◌&&◌, ◌||◌, List, [], ◌∷◌, ◌++◌, ℕ, ◌/◌, ◌%◌, length, eqb}
use Rattle.rules.specs.Account.{Account, at}
use Rattle.rules.specs.Payment.{bank_of}

pub data Letter : Type 0 where
  A B N S R : Letter

-- bits 0 to 4 of the byte
unfoldable pub weight : Letter → ℕ
weight A = 1
weight B = 2
weight N = 4
weight S = 8
weight R = 16

unfoldable pub has : Letter → ℕ → Bool
has l byte = eqb (byte / weight l % 2) 1

-- 1 where the account is marked, so that a sum counts the marks
unfoldable pub mark : Account → ℕ
mark x = cond x.marked 1 0

-- ---- what a payment meets

-- on a party's account x or on its bank's, b: a letter on a bank also holds for its branches
unfoldable pub holds : Letter → Account → Account → Bool
holds l x b = has l x.letters || has l b.letters

-- x, with its bank b, may send. A and R: no payment sent; S: no credit sent
unfoldable pub may_send : Bool → Account → Account → Bool
may_send credit x b = (not (holds A x b) && not (holds R x b)) && (not credit || not (holds S x b))

-- y, with its bank d, may receive; `central` is whether the sender is the marked central bank or one of its branches. B: no payment received; N: as B except
-- from those
unfoldable pub may_receive : Bool → Account → Account → Bool
may_receive central y d = not (holds B y d) && (central || not (holds N y d))

-- in a debit too the sender sends and the receiver receives, whoever pays
unfoldable pub letters_pass : Bool → Account → Account → Account → Account → Bool
letters_pass credit x b y d = may_send credit x b && may_receive b.marked y d

unfoldable pub letters_allow : Bool → ℕ → ℕ → List Account → Bool
letters_allow credit s r xs = letters_pass credit (at s xs) (at (bank_of s xs) xs) (at r xs) (at (bank_of r xs) xs)

-- ---- what a search report shows

unfoldable pub ascii : Letter → ℕ
ascii A = 65
ascii B = 66
ascii N = 78
ascii S = 83
ascii R = 82

-- a letter in ASCII where it is set
unfoldable pub shown : Letter → ℕ → List ℕ
shown l byte = cond (has l byte) (ascii l ∷ []) []

-- those that are set, in the order ABNSR
unfoldable pub letters_shown : ℕ → List ℕ
letters_shown byte = shown A byte ++ (shown B byte ++ (shown N byte ++ (shown S byte ++ shown R byte)))

-- how many are set, and which
unfoldable pub letter_bytes : ℕ → List ℕ
letter_bytes byte = (length (letters_shown byte) ∷ []) ++ letters_shown byte
