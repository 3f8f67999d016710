use Rattle.poincare_run.proofs.{Shared.{refl, append-nil, StandsFor}, BufferLemmas.{holds_all, holds_return}, buffer.LineBuffer.push.Goals.{then-self, else-self}}
use Rattle.poincare_run.proofs.buffer.LineBuffer.push.Goals as goal

pub returns-then-not-self : goal.returns-then-not-self
returns-then-not-self c = elim c.if-self.branch [
  | then-self w ↦ λ bytes h.
      let first : StandsFor c.if-self.self.kept.items bytes = rw (w.self-is, h.bytes_are, w.if-self.true) (w.keep.ensures h.line h.stands) in
      holds_all _ bytes c.args.byte c.if-not-self.true refl (c.keep-then-not-self.ensures bytes first)
  | else-self w ↦ λ bytes h.
      let first : StandsFor c.if-self.self.kept.items bytes = rw (w.self-is, h.bytes_are, w.if-self.false, append-nil) h.stands in
      holds_all _ bytes c.args.byte c.if-not-self.true refl (c.keep-then-not-self.ensures bytes first)
]

pub returns-else-not-self : goal.returns-else-not-self
returns-else-not-self c = elim c.if-self.branch [
  | then-self w ↦ λ bytes h.
      let first : StandsFor c.if-self.self.kept.items bytes = rw (w.self-is, h.bytes_are, w.if-self.true) (w.keep.ensures h.line h.stands) in
      holds_return _ bytes c.args.byte c.if-not-self.false refl first
  | else-self w ↦ λ bytes h.
      let first : StandsFor c.if-self.self.kept.items bytes = rw (w.self-is, h.bytes_are, w.if-self.false, append-nil) h.stands in
      holds_return _ bytes c.args.byte c.if-not-self.false refl first
]
