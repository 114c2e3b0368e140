-- The givens that are made hold at a polymatroid exactly where the secret is shared perfectly.
use Rattle.std.proofs.Common.{◌≡◌, ℕ, ◌≤◌, ◌↔◌, ℤ, pos, List, [], ◌∷◌, length, map, bit_or, refl, sym, ap, subst, inl, inr, arith}
use Rattle.std.specs.List.{AllByRecursion as Every}
use Rattle.std.proofs.lemmas.Int.{ints}
use Rattle.std.proofs.lemmas.List.Elements.{All-nil}
use Rattle.std.specs.Int.Bits.{or_zero_r}
use Rattle.it_space.proofs.EveryLemmas.{every_of, all_of, every-append, every_front, every_back, every-map, every_mapped}
use Rattle.it_polymatroid.specs.Polymatroid.{IsPolymatroid}
use Rattle.it_syntax.specs.declared.types.Atom.TheVariants.{Entropy, Mutual}
use Rattle.it_syntax.specs.Meaning.{atom_at, Holds}
use Rattle.it_syntax.specs.Givens.{IsTrueAt}
use Rattle.it_sharing.specs.AccessStructures.{secret, IsPartySet, minimal_sets, maximal_sets}
use Rattle.it_sharing.specs.Sharings.{knows, knows_nothing, made_givens, made_question}
use Rattle.it_sharing.specs.PerfectSharing.{IsPerfect, MadeGivensArePerfect, MadeQuestionIsOfPerfectSharing}
use Rattle.it_sharing.proofs.Members.{Member}
use Rattle.it_sharing.proofs.AccessLemmas.{minimal_listed, maximal_unqualified, qualified_by, inside_itself}
use Rattle.it_sharing.proofs.VanishingLemmas.{vanishes}
use Rattle.it_sharing.proofs.PerfectLemmas.{unknown, known_by_minimal, hidden_by_maximal}

pub every_member : (P : ℕ → Type 0) (x : ℕ) (xs : List ℕ) → Every P xs → Member x xs → P x
every_member P x [] e m = absurd m
every_member P x (y ∷ ys) e (inl s) = subst P (sym s) e.0
every_member P x (y ∷ ys) e (inr m) = every_member P x ys e.1 m

pub every_by_members : (P : ℕ → Type 0) (xs : List ℕ) → ((x : ℕ) → Member x xs → P x) → Every P xs
every_by_members P [] f = tt
every_by_members P (x ∷ xs) f = (f x (inl refl), every_by_members P xs (λ y m. f y (inr m)))

hidden_is : (n : ℕ) (h : ℕ → ℤ) (b : ℕ) → h 0 ≡ pos 0 → (atom_at n h (Mutual secret b 0) ≡ pos 0) ↔ (unknown h b ≡ h secret)
hidden_is n h b z =
    let u : h (bit_or secret 0) ≡ h secret = ap h (or_zero_r secret) in
    let v : h (bit_or b 0) ≡ h b = ap h (or_zero_r b) in
    let w : h (bit_or (bit_or secret b) 0) ≡ h (bit_or secret b) = ap h (or_zero_r (bit_or secret b)) in
    (λ e. omega (arith, ints, e, u, v, w, z), λ e. omega (arith, ints, e, u, v, w, z))

perfect_of : (n : ℕ) (listed : List ℕ) (h : ℕ → ℤ) → 1 ≤ n → IsPolymatroid n h → Every (IsTrueAt n h) (made_givens n listed) → IsPerfect n listed h
unfolding made_givens
perfect_of n listed h some p e =
    let minimal = every_mapped (IsTrueAt n h) knows (minimal_sets listed)
    (every_front (IsTrueAt n h) (map knows (minimal_sets listed)) (map knows_nothing (maximal_sets n listed)) e) in
    let maximal = every_mapped (IsTrueAt n h) knows_nothing (maximal_sets n listed)
    (every_back (IsTrueAt n h) (map knows (minimal_sets listed)) (map knows_nothing (maximal_sets n listed)) e) in
    record {
      known = λ a k q. known_by_minimal n listed h some p (λ m j. (vanishes n h (Entropy secret m)).0
          (every_member (λ a. IsTrueAt n h (knows a)) m (minimal_sets listed) minimal j)) a k q;
      hidden = λ b k q. (hidden_is n h b p.empty).1 (hidden_by_maximal n listed h some p
          (λ m j. (hidden_is n h m p.empty).0 ((vanishes n h (Mutual secret m 0)).0
          (every_member (λ b. IsTrueAt n h (knows_nothing b)) m (maximal_sets n listed) maximal j))) b k q);
    }

made_of : (n : ℕ) (listed : List ℕ) (h : ℕ → ℤ) → Every (IsPartySet n) listed → IsPerfect n listed h → Every (IsTrueAt n h) (made_givens n listed)
unfolding made_givens
made_of n listed h parties p =
    every-append (IsTrueAt n h) (map knows (minimal_sets listed)) (map knows_nothing (maximal_sets n listed))
    (every-map (IsTrueAt n h) knows (minimal_sets listed) (every_by_members (λ a. IsTrueAt n h (knows a)) (minimal_sets listed)
    (λ m j. let l = minimal_listed listed m j in (vanishes n h (Entropy secret m)).1
    (p.known m (every_member (IsPartySet n) m listed parties l) (qualified_by listed m m l (inside_itself m))))))
    (every-map (IsTrueAt n h) knows_nothing (maximal_sets n listed) (every_by_members (λ b. IsTrueAt n h (knows_nothing b)) (maximal_sets n listed)
    (λ m j. let u = maximal_unqualified n listed m j in (vanishes n h (Mutual secret m 0)).1 (p.hidden m u.0 u.1))))

pub made_givens_are_perfect : MadeGivensArePerfect
made_givens_are_perfect n listed h some parties p = (
  (λ e. perfect_of n listed h some p (every_of (IsTrueAt n h) (made_givens n listed) e)),
  (λ q. all_of (IsTrueAt n h) (made_givens n listed) (made_of n listed h (every_of (IsPartySet n) listed parties) q)),
)

pub made_question_is_of_perfect_sharing : MadeQuestionIsOfPerfectSharing
unfolding made_question
made_question_is_of_perfect_sharing x h s =
    let n = length x.names.variables in
    let some : 1 ≤ n = omega (arith, s.some) in (
      (λ t. (t.0, (made_givens_are_perfect n x.qualified h some s.parties t.0).0 t.1.givens)),
      (λ q. (q.0, record { givens = (made_givens_are_perfect n x.qualified h some s.parties q.0).1 q.1; rows = All-nil (Holds n h) })),
    )
