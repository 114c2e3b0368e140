-- What a mode is, and what it makes of an input.
use Rattle.std.specs.Prelude.{◌≡◌, ℕ, ◌+◌, List, [], ◌∷◌, ◌++◌, length, All}
use Rattle.it_outside.specs.Groups.{Groups}
use Rattle.it_outside.specs.Traffic.{IsPrefix}
use Rattle.it_forms.specs.declared.types.Code.{Code}
use Rattle.it_cli.specs.declared.status.Status.{Status}

-- The bytes of an input ask for items, one after the other, or have a first fault, at a line and a column. An item has replies
-- that are right after those to the items before it. A reply's lines depend on the item's number. The status depends on all
-- replies.
pub record Mode : Type 1 where
  pub Item : Type 0
  pub Reply : Type 0
  pub Asks : List ℕ → List Item → Type 0
  pub FaultAt : List ℕ → ℕ → ℕ → Code → Type 0
  pub IsRight : List Reply → Item → Reply → Type 0
  pub text : ℕ → Item → Reply → List ℕ
  pub status : List Reply → Status

-- these are right replies to these items in order, and their lines
abbrev pub Replies : (m : Mode) → List m.Item → List m.Reply → List ℕ → Type 0
Replies m items replies out = Groups m.IsRight (λ earlier item reply. earlier ++ reply ∷ []) m.text 1 [] items replies out

-- the lines of the replies to all items that the bytes ask for, and the status after them
pub record WholeOutput (m : Mode) (bytes out : List ℕ) (status : Status) : Type 0 where
  pub items : List m.Item
  pub asked : m.Asks bytes items
  pub replies : List m.Reply
  pub written : Replies m items replies out
  pub is : status ≡ m.status replies

-- the lines of the replies to the first items; the bytes ask for the items `later` after them
pub record FirstOutput (m : Mode) (later : List m.Item) (bytes out : List ℕ) : Type 0 where
  pub items : List m.Item
  pub asked : m.Asks bytes (items ++ later)
  pub replies : List m.Reply
  pub written : Replies m items replies out

-- the lines of the replies to the first items, and then a prefix of the lines of a right reply to the next one
pub record OutputInPart (m : Mode) (bytes out : List ℕ) : Type 0 where
  pub next : m.Item
  pub later : List m.Item
  pub whole : List ℕ
  pub first : FirstOutput m (next ∷ later) bytes whole
  pub reply : m.Reply
  pub right : m.IsRight first.replies next reply
  pub part : List ℕ
  pub prefix : IsPrefix part (m.text (length first.items + 1) next reply)
  pub is : out ≡ whole ++ part

-- bytes ask for one list of items, or have one first fault, and not both
pub record HasOneReading (m : Mode) : Type 0 where
  pub one_reading : (bytes : List ℕ) (xs ys : List m.Item) → m.Asks bytes xs → m.Asks bytes ys → xs ≡ ys
  pub one_fault : (bytes : List ℕ) (line column row place : ℕ) (c d : Code) → m.FaultAt bytes line column c → m.FaultAt bytes row place d → (line ≡ row) × (column ≡ place) × (c ≡ d)
  pub apart : (bytes : List ℕ) (xs : List m.Item) (line column : ℕ) (c : Code) → m.Asks bytes xs → m.FaultAt bytes line column c → ⊥

-- an item has one right reply after others
abbrev pub HasOneReply : (m : Mode) → m.Item → Type 0
HasOneReply m x = (earlier : List m.Reply) (a b : m.Reply) → m.IsRight earlier x a → m.IsRight earlier x b → a ≡ b

-- the mode has one reading of bytes, and each item that these ask for has one right reply after others
pub record IsDetermined (m : Mode) : Type 0 where
  pub reading : HasOneReading m
  pub one_reply : (bytes : List ℕ) (xs : List m.Item) → m.Asks bytes xs → All (HasOneReply m) xs
