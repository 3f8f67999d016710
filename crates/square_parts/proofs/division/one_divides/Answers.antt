use Rattle.square_parts.proofs.Shared.{◌≢◌, ℕ, ◌*◌, ◌%◌, ◌∙◌, ◌∣◌, eqb-false, dvd-mul_left, dvd-mul_right, dvd_trans}
use Rattle.square_parts.proofs.division.one_divides.Goals as goal

pub returns-else-rest-c-eq0 : goal.returns-else-rest-c-eq0
returns-else-rest-c-eq0 c = λ last. (
  not c.args.a (dvd_trans c.args.a (dvd-mul_right c.args.a c.args.b) (dvd-mul_right (c.args.a * c.args.b) (c.args.c * c.args.d))) c.if-rest-a-eq0.false,
  not c.args.b (dvd_trans c.args.b (dvd-mul_left c.args.b c.args.a) (dvd-mul_right (c.args.a * c.args.b) (c.args.c * c.args.d))) c.if-rest-b-eq0.false,
  not c.args.c (dvd_trans c.args.c (dvd-mul_right c.args.c c.args.d) (dvd-mul_left (c.args.c * c.args.d) (c.args.a * c.args.b))) c.if-rest-c-eq0.false,
  not c.args.d (dvd_trans c.args.d (dvd-mul_left c.args.d c.args.c) (dvd-mul_left (c.args.c * c.args.d) (c.args.a * c.args.b))) (eqb-false (c.remainder-rest.result % c.args.d) 0 last),
)
  where
    not : (m : ℕ) → m ∣ (c.args.a * c.args.b) * (c.args.c * c.args.d) → c.remainder-rest.result % m ≢ 0 → c.args.n % m ≢ 0
    not m h other e = other (c.remainder-rest.ensures m h ∙ e)
