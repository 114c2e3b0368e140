-- The certificate over generators by the weights of their columns.
use Rattle.std.specs.Prelude.{ℕ, pos, ◌-ℤ◌, List, map}
use Rattle.it_rational.specs.Rational.{Rational}
use Rattle.it_space.specs.Rows.{Terms, coefficient}
use Rattle.it_space.specs.Sums.{terms_from}
use Rattle.it_space.specs.Answers.{CertificateView}
use Rattle.it_elemental.specs.Generators.{Generator}
use Rattle.it_columns.specs.Columns.{numbers_from}
use Rattle.it_columns.specs.Scaling.{scale_of, scaled_number}

-- the weights of columns
abbrev pub numbers_of : List (ℕ × Rational) → List Rational
numbers_of ws = map (λ w. w.1) ws

-- the weights of columns, each times l, for a multiple l of the denominators
abbrev pub scaled_by : ℕ → List (ℕ × Rational) → Terms
scaled_by l ws = map (λ w. (w.0, scaled_number l w.1)) ws

-- the certificate over the generators that has the weights of their columns, made whole by the least common multiple of their denominators
abbrev pub certificate_of : List Generator → List (ℕ × Rational) → CertificateView
certificate_of gs ws = record {
  scale = pos (scale_of (numbers_of ws));
  weights = terms_from 0 (numbers_from (λ a b. a -ℤ b) 0 gs (coefficient (scaled_by (scale_of (numbers_of ws)) ws)));
}
