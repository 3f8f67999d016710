-- A text is read in one way.
use Rattle.std.proofs.Common.{◌≡◌, ℕ, List, Option, Some, None, ap, subst, arith}
use Rattle.calc_session.proofs.Shared.{IsLine, SameLine, one_line, Tree, depth, Placed, bare, AreTokensOf, character_or_all, wide_or_all, one_list, IsMisread, meets_no_token, meets_a_wide_number}
use Rattle.calc_session.proofs.Shared.{forms_no_line, forms_a_deep_line, IsNoExpression, is_misread, forms_a_store, ReadsText, Reason}

pub no_store : (y : List ℕ) → None ≡ Some y → ⊥
no_store y e = cc

module _ (text : List ℕ) {tokens : List Placed} {store : Option (List ℕ)} {tree : Tree} (reads : ReadsText text tokens store tree) where
  pub its_line : {others : List Placed} → AreTokensOf others text → IsLine (bare others) store tree
  its_line {others} cut = subst (λ (ts : List Placed). IsLine (bare ts) store tree) (one_list text tokens others reads.cut cut) reads.line-is

  pub one_text : {others : List Placed} {store' : Option (List ℕ)} {other : Tree} → ReadsText text others store' other → SameLine store store' tree other
  one_text {others} {store'} {other} r = one_line (bare others) store store' tree other (its_line r.cut) r.line-is

  pub never_misread : {n : ℕ} {reason : Reason} → IsMisread n text reason → ⊥
  never_misread (meets_no_token {at = at} f) = character_or_all text at tokens f reads.cut
  never_misread (meets_a_wide_number {at = at} f) = wide_or_all text at tokens f reads.cut
  never_misread (forms_no_line cut denied) = denied store tree (its_line cut)
  never_misread (forms_a_deep_line {tokens = others} cut over) =
      let same = one_line (bare others) store over.store tree over.tree (its_line cut) over.line in
      let shallow = reads.shallow in
      omega (arith, over.over, shallow, ap depth same.trees)

-- an expression is read
pub read_at_all : (text : List ℕ) {tokens : List Placed} {tree : Tree} {n : ℕ} {reason : Reason} → ReadsText text tokens None tree → IsNoExpression n text reason → ⊥
read_at_all text reads (is_misread h) = never_misread text reads h
read_at_all text reads (forms_a_store {x = y} r) = no_store y (one_text text reads r).stores
