-- Lemmas on bytes that a source gives.
use Rattle.calc_edges.proofs.Shared.{ℕ, List, [], ◌++◌, Appends-nil, Appends-trans, Consumes-nil, Consumes-trans, Gives, SourceBytes}

-- before the first read
pub Gives-nil : (a : SourceBytes) → Gives a a []
Gives-nil a = record { given = Appends-nil a.given; left = Consumes-nil a.left }

-- one read after another
pub Gives-trans : (a b c : SourceBytes) (bs cs : List ℕ) → Gives a b bs → Gives b c cs → Gives a c (bs ++ cs)
Gives-trans a b c bs cs p q = record {
  given = Appends-trans a.given b.given c.given bs cs p.given q.given;
  left = Consumes-trans a.left b.left c.left bs cs p.left q.left;
}
