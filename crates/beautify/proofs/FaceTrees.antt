-- The face in the place of its tree.
use Rattle.beautify.proofs.Shared.{◌≡◌, ◌∙◌, ℕ, [], ◌∷◌, sym, ap, subst, true, Tree, face, is_reduced, KeepsMeanings, Forest, join, join_assoc, IsHanded, Gives, Ends, Starts, KeepsFront, without_root}
use Rattle.beautify.proofs.{Shared.{ends_without}, FaceLaws.{reduced_face_means}}

pub face_keeps : (t : Tree) → is_reduced t ≡ true → KeepsMeanings t (face t)
face_keeps t h = record { means = λ f once v m. reduced_face_means t h f v m }

-- a root before the last tree goes
pub other_gone : {f b new : Forest} {i j : ℕ} {P : Tree → Type 0} → IsHanded i f → Gives f b j P → new ≡ without_root i b → Gives (without_root i f) new j P
other_gone {f = f} {i = i} {j = j} h t e = record { tree = t.tree; ends = subst (Ends j t.tree (without_root i f)) (sym e) (ends_without i t.ends h.root); once = t.once; whole = t.whole; told = t.told }

-- all that stood still stands first
pub keeps_before : {i : ℕ} {f g : Forest} → Starts f g → KeepsFront (i ∷ []) f g
keeps_before {f = f} {g = g} s = record { keeps = λ p q n. record { behind = join q.behind s.behind; whole = s.whole ∙ ap (λ (x : Forest). join x s.behind) q.whole ∙ join_assoc p q.behind s.behind } }
