-- Several steps of the engine at once.
use Rattle.std.proofs.Common.{◌≡◌, ◌≢◌, ℕ, zero, suc, ◌+◌, ◌-◌, ◌<◌, ◌≤◌, Bool, true, false, cond, List, [], length, slice_index_or, slice_set, refl, sym, ap, subst, ◌∙◌, arith}
use Rattle.std.proofs.lemmas.List.{length-set, get_or-set_same, get_or-set_other}
use Rattle.std.proofs.lemmas.Bool.{true≢false}
use Rattle.it_fraction.proofs.ZeroLemmas.{zero_parts}
use Rattle.it_rational.specs.Rational.{Rational, IsRatio}
use Rattle.it_rational.proofs.Field.{field_ℚ}
use Rattle.it_space.specs.Rows.{Terms}
use Rattle.it_tableau.specs.Operations.{rationals}
use Rattle.it_tableau.specs.Invariants.{HasInvariants}
use Rattle.it_tableau.specs.SimplexTables.{SimplexTable, FeasibilityProblem}
use Rattle.it_run.specs.Choice.{next, IsDone, IsStuck}
use Rattle.it_run.specs.Runs.{RunEndView}
use Rattle.it_run.specs.Solving.{StepFits}
use Rattle.it_run.specs.Steps.{Reaches}
use Rattle.it_run.proofs.DegenerateSteps.{none_moved}
use Rattle.it_run.proofs.RunLemmas.{next_holds}
use Rattle.it_run.proofs.RunSteps.{run_more}
use Rattle.it_run.proofs.StepsLeft.{steps_left, steps_fall}
use Rattle.it_engine.specs.Behind.{AreBaseBounds, AreBrought, AreEngineSteps, AreStillSteps, has_moved, IsBehindStep, IsStillChoice, ShowsBehind, StepsLead}
use Rattle.it_engine.specs.Choosing.{right_side_of}
use Rattle.it_engine.specs.Engine.{IsSafe, Represents}
use Rattle.it_engine.specs.PivotedRows.{IsFitting}
use Rattle.it_vectors.specs.Sizes.{AreAtMost}
use Rattle.it_whole.specs.WholeRows.{IsUsable, IsRow, WholeRowView}
use Rattle.it_engine.specs.Tables.{whole_row_at}
use Rattle.it_engine.proofs.BehindTables as T
use Rattle.it_whole.proofs.Names.{number_null}

-- the end of the run after k steps is its end from before them
pub steps_lead_on : (m n k left made : ℕ) (t s : SimplexTable Rational) (e : RunEndView (SimplexTable Rational) (SimplexTable Rational))
    → k ≤ left → StepsLead m n k t s → Reaches m n (left - k) (made + k) s e → Reaches m n left made t e
steps_lead_on m n zero left made t s e h l q = subst (λ (x : SimplexTable Rational). Reaches m n left made x e) l
    (let a : left - 0 ≡ left = omega arith in let b : made + 0 ≡ made = omega arith in
    subst (λ (x : ℕ). Reaches m n x made s e) a (subst (λ (x : ℕ). Reaches m n (left - 0) x s e) b q))
steps_lead_on m n (suc k) left made t s e h l q = steps_lead_on m n k left made t l.0 e (omega (arith, h)) l.1
    (run_more m n (left - k) (made + k) l.0 s e (omega (arith, h)) l.2 l.3 l.4 l.5
    (let a : left - suc k ≡ left - k - 1 = omega arith in let b : made + suc k ≡ made + k + 1 = omega arith in
    subst (λ (x : ℕ). Reaches m n x (made + k + 1) s e) a (subst (λ (x : ℕ). Reaches m n (left - suc k) x s e) b q)))

-- each of them lowers the number of steps that are left
pub steps_lead_down : (m n k : ℕ) (p : FeasibilityProblem Rational) (t s : SimplexTable Rational) → HasInvariants rationals m n p t
    → StepsLead m n k t s → HasInvariants rationals m n p s × (steps_left field_ℚ m n s + k ≤ steps_left field_ℚ m n t)
steps_lead_down m n zero p t s h l = (
  subst (HasInvariants rationals m n p) (sym l) h,
  (let e : steps_left field_ℚ m n s ≡ steps_left field_ℚ m n t = ap (steps_left field_ℚ m n) l in omega (arith, e)),
)
steps_lead_down m n (suc k) p t s h l =
    let r = steps_lead_down m n k p t l.0 h l.1 in
    let f = steps_fall field_ℚ m n p l.0 r.0 l.3 in
    let e : steps_left field_ℚ m n s ≡ steps_left field_ℚ m n (next rationals m n l.0) = ap (steps_left field_ℚ m n) l.5 in
    (subst (HasInvariants rationals m n p) (sym l.5) (next_holds field_ℚ m n p l.0 r.0 l.3), omega (arith, f, e, r.1))

module _ (columns : List Terms) (limit : ℕ) (old : List WholeRowView) (basis : List ℕ) (moved : List Bool) where
  pub no_steps : IsSafe columns limit old basis → AreStillSteps columns limit old basis moved 0 old basis moved
  no_steps h = record { engine = h; height = refl; even = refl; made = λ p b t s. (t, s, refl) }

  pub more_steps : (k c r : ℕ) (now : List WholeRowView) (now_basis : List ℕ) (now_moved : List Bool) (new : List WholeRowView)
      → AreStillSteps columns limit old basis moved k now now_basis now_moved
      → IsStillChoice columns limit now now_basis now_moved c r → IsBehindStep columns limit now now_basis now_moved c r new
      → AreStillSteps columns limit old basis moved (k + 1) new (slice_set now_basis r c) (slice_set now_moved r true)
  more_steps k c r now now_basis now_moved new h g a = record {
    engine = a.engine;
    height = length-set now_basis r c ∙ h.height;
    even = length-set now_moved r true ∙ h.even;
    made = λ p b t s.
        let x = h.made p b t s in
        let u = x.0 in
        let enters = T.entering_behind p b u columns limit now now_basis (has_moved now_moved) x.1 ∙ g.column_is in
        let moves = T.moves_behind p b u columns limit now now_basis (has_moved now_moved) x.1 c g.column g.column_is in
        let leaves = g.leaves p b u x.1 g.column_is in
        let on : suc k ≡ k + 1 = omega arith in (
          next rationals (length now_basis) (length columns) u,
          a.made p b u x.1 enters leaves moves,
          subst (λ (i : ℕ). StepsLead (length basis) (length columns) i t (next rationals (length now_basis) (length columns) u)) on (
            u,
            x.2,
            by_same_height (λ m. ¬ (IsDone rationals m (length columns) u)) (not_done p b u x.1),
            by_same_height (λ m. ¬ (IsStuck rationals m (length columns) u)) moves,
            by_same_height (λ m. StepFits m (length columns) u) leaves.fits,
            ap (λ m. next rationals m (length columns) u) h.height,
          ),
        );
  }
    where
      by_same_height : (P : ℕ → Type 0) → P (length now_basis) → P (length basis)
      by_same_height P x = subst P h.height x

      not_done : (p : FeasibilityProblem Rational) (b u : SimplexTable Rational)
          → ShowsBehind p b u columns limit now now_basis (has_moved now_moved) → ¬ (IsDone rationals (length now_basis) (length columns) u)
      not_done p b u s d = g.not_done (number_null (right_side_of (length now_basis) now (length now_basis))
          (u.entry (length now_basis) (length columns + length now_basis)) (whole_row_at now (length now_basis)).denominator
          (subst (λ (x : Bool). IsRatio (cond x (u.entry (length now_basis) (length columns + length now_basis))
          (b.entry (length now_basis) (length columns + length now_basis))) (right_side_of (length now_basis) now (length now_basis))
          (whole_row_at now (length now_basis)).denominator) s.cost
          ((s.shows.row (length now_basis) (omega arith)).named (length now_basis) (omega arith)))
          (ap (λ (q : Rational). q.num) d ∙ zero_parts.0))

-- the rows of a table, where none moved but the cost row
pub shows_base : (p : FeasibilityProblem Rational) (t : SimplexTable Rational) (columns : List Terms) (limit : ℕ) (rows : List WholeRowView)
    (basis : List ℕ) (moved : List Bool) → Represents p t columns limit rows basis
    → ((i : ℕ) → i < length basis → has_moved moved i ≡ false) → has_moved moved (length basis) ≡ true
    → ShowsBehind p t t columns limit rows basis (has_moved moved)
shows_base p t columns limit rows basis moved s none cost = record {
  norm = s.norm;
  some = s.some;
  fit = s.fit;
  behind = (let n = none_moved field_ℚ (length basis) (length columns) p t s.holds
      in record {
        base = s.holds;
        holds = s.holds;
        same = λ q l e. refl;
        still = λ q l e. absurd
            (true≢false (sym e ∙ none q l));
        rights = λ i l. refl;
      });
  cost = cost;
  entered = λ q l e. absurd (true≢false (sym e ∙ none q l));
  shows = record { rows_are = s.shows.rows_are; basis_are = s.shows.basis_are; row = λ i l. row_by_move i l (has_moved moved i); basis_is = s.shows.basis_is };
  columns_are = s.columns_are;
}
  where
    row_by_move : (i : ℕ) → i < length basis + 1 → (d : Bool)
        → IsRow (length basis + 1) limit (λ k. cond d (t.entry i (length columns + k)) (t.entry i (length columns + k)))
        (whole_row_at rows i).numbers (whole_row_at rows i).denominator
    row_by_move i l true = s.shows.row i l
    row_by_move i l false = s.shows.row i l

-- all rows are brought up to date
pub shows_brought : (p : FeasibilityProblem Rational) (b t : SimplexTable Rational) (columns : List Terms) (limit : ℕ)
    (rows : List WholeRowView) (basis : List ℕ) (moved : List Bool) (new : List WholeRowView)
    → ShowsBehind p b t columns limit rows basis (has_moved moved) → AreBrought columns limit rows basis moved (length basis) new
    → Represents p t columns limit new basis
shows_brought p b t columns limit rows basis moved new s a = record {
  norm = s.norm;
  some = s.some;
  fit = s.fit;
  holds = s.behind.holds;
  shows = record {
    rows_are = a.same_length ∙ s.shows.rows_are;
    basis_are = refl;
    row = λ i l. row_by_move i l
        (has_moved moved i) refl;
    basis_is = s.shows.basis_is;
  };
  columns_are = s.columns_are;
}
  where
    row_by_move : (i : ℕ) → i < length basis + 1 → (d : Bool) → has_moved moved i ≡ d
        → IsRow (length basis + 1) limit (λ k. t.entry i (length columns + k)) (whole_row_at new i).numbers (whole_row_at new i).denominator
    row_by_move i l true e = subst (λ (w : WholeRowView). IsRow (length basis + 1) limit
        (λ k. t.entry i (length columns + k)) w.numbers w.denominator) (sym (a.kept i e))
        (subst (λ (d : Bool). IsRow (length basis + 1) limit (λ k. cond d (t.entry i (length columns + k)) (b.entry i (length columns + k)))
        (whole_row_at rows i).numbers (whole_row_at rows i).denominator) e (s.shows.row i l))
    row_by_move i l false e = a.done i (T.behind_below p b t columns limit rows basis (has_moved moved) s i (omega (arith, l)) e) e p b t s

pub steps_made : (columns : List Terms) (limit : ℕ) (old : List WholeRowView) (basis : List ℕ) (moved : List Bool) (k : ℕ)
    (now : List WholeRowView) (now_basis : List ℕ) (now_moved : List Bool) (new : List WholeRowView)
    → ((i : ℕ) → i < length basis → has_moved moved i ≡ false) → has_moved moved (length basis) ≡ true
    → AreStillSteps columns limit old basis moved k now now_basis now_moved
    → AreBrought columns limit now now_basis now_moved (length now_basis) new → AreEngineSteps columns limit old basis k new now_basis
steps_made columns limit old basis moved k now now_basis now_moved new none cost h a = record {
  engine = record {
    rows_are = a.same_length ∙ h.engine.rows_are;
    usable = λ i l. subst (λ (w : ℕ). IsUsable w limit (whole_row_at new i)) (sym a.same_length) (a.usable i l);
    fitting = λ j l. subst (λ (w : ℕ). IsFitting w limit (slice_index_or columns j [])) (sym a.same_length) (h.engine.fitting j l);
    limit_is = h.engine.limit_is;
  };
  height = h.height;
  made = λ p t s. let x = h.made p t t (shows_base p t columns limit old basis moved s none cost) in
      (x.0, shows_brought p t x.0 columns limit now now_basis now_moved new x.1 a, x.2);
}

-- a bound on the rows that stay behind bounds those that stay behind after one more step
pub bounds_kept : (columns : List Terms) (limit : ℕ) (old : List WholeRowView) (basis : List ℕ) (moved : List Bool)
    (c r most low height : ℕ) (new : List WholeRowView) → IsBehindStep columns limit old basis moved c r new
    → r < length moved → height ≤ length old → AreBaseBounds most low old moved height → AreBaseBounds most low new (slice_set moved r true) height
bounds_kept columns limit old basis moved c r most low height new g here all h = λ i l f.
    let d : i ≢ r = λ e. true≢false (sym (get_or-set_same moved r true false here) ∙ ap (has_moved (slice_set moved r true)) (sym e) ∙ f) in
    let still : has_moved moved i ≡ false = sym (get_or-set_other moved r i true false d) ∙ f in
    subst (λ (w : WholeRowView). AreAtMost w.numbers most × (w.denominator ≤ low)) (sym (g.kept i (omega (arith, l, all)) d still)) (h i l still)
