-- Perfect secret sharing (Karnin, Greene, Hellman 1983; Beimel 2011): each qualified set knows the secret, and each other set of parties
-- nothing of it.
use Rattle.std.specs.Prelude.{◌≡◌, ℕ, ◌≤◌, ◌↔◌, true, false, ℤ, pos, List, length, All}
use Rattle.it_polymatroid.specs.Polymatroid.{IsPolymatroid}
use Rattle.it_syntax.specs.declared.types.Atom.TheVariants.{Entropy, Mutual}
use Rattle.it_syntax.specs.Meaning.{atom_at}
use Rattle.it_syntax.specs.Givens.{IsTrueAt}
use Rattle.it_canon.specs.TrueLines.{AreTrueTogether}
use Rattle.it_sharing.specs.AccessStructures.{secret, IsPartySet, is_qualified}
use Rattle.it_sharing.specs.Sharings.{SharingView, IsSharing, made_givens, made_question}

-- at h, H(s|A) is 0 for every qualified set A of parties, and I(s;B) for every other set B of parties
pub record IsPerfect (n : ℕ) (listed : List ℕ) (h : ℕ → ℤ) : Type 0 where
  pub known : (a : ℕ) → IsPartySet n a → is_qualified listed a ≡ true → atom_at n h (Entropy secret a) ≡ pos 0
  pub hidden : (b : ℕ) → IsPartySet n b → is_qualified listed b ≡ false → atom_at n h (Mutual secret b 0) ≡ pos 0

-- a polymatroid at which a secret is shared perfectly, by what a sharing file says
abbrev pub SharesPerfectly : SharingView → (ℕ → ℤ) → Type 0
SharesPerfectly x h = IsPolymatroid (length x.names.variables) h × IsPerfect (length x.names.variables) x.qualified h

-- At a polymatroid the givens that are made of listed sets of parties hold exactly where the secret is shared perfectly.
abbrev pub MadeGivensArePerfect : Type 0
MadeGivensArePerfect = (n : ℕ) (listed : List ℕ) (h : ℕ → ℤ) → 1 ≤ n → All (IsPartySet n) listed → IsPolymatroid n h → All (IsTrueAt n h) (made_givens n listed) ↔ IsPerfect n listed h

-- So a polymatroid makes the lines of the made question true exactly where it shares the secret perfectly.
abbrev pub MadeQuestionIsOfPerfectSharing : Type 0
MadeQuestionIsOfPerfectSharing = (x : SharingView) (h : ℕ → ℤ) → IsSharing x → AreTrueTogether (made_question x).body h ↔ SharesPerfectly x h
