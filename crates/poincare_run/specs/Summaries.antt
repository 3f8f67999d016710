-- A summary of the replies to many lines.
use Rattle.std.specs.{Prelude.{ℕ, ◌≤◌, ◌*◌, ◌^◌, List, ◌++◌, length, Some, None, codes}, List.{sum_by}, Fmt.{decimal}}
use Rattle.calc_session.specs.Replies.{Reply, shown, stored, undefined, refused, text_of}
use Rattle.poincare_run.specs.declared.tally.Tally.{Tally}

-- the sorts of replies that are counted
pub data Sort : Type 0 where
  as_shown : Sort
  as_stored : Sort
  as_undefined : Sort
  as_refusal : Sort
  as_other : Sort

abbrev pub sort_of : Reply → Sort
sort_of (shown t) = as_shown
sort_of (stored t x) = as_stored
sort_of undefined = as_undefined
sort_of (refused reason) = as_refusal
sort_of reply = as_other

-- 1 for a reply of the sort, and else 0
abbrev pub one_shown : Sort → ℕ
one_shown as_shown = 1
one_shown sort = 0

abbrev pub one_stored : Sort → ℕ
one_stored as_stored = 1
one_stored sort = 0

abbrev pub one_undefined : Sort → ℕ
one_undefined as_undefined = 1
one_undefined sort = 0

abbrev pub one_refusal : Sort → ℕ
one_refusal as_refusal = 1
one_refusal sort = 0

abbrev pub how_many : (Sort → ℕ) → List Reply → ℕ
how_many one replies = sum_by (λ r. one (sort_of r)) replies

-- the bytes of a reply's text, without a newline
abbrev pub text_length : Reply → ℕ
text_length reply = elim (text_of reply) [ None ↦ 0 | Some text ↦ length text ]

-- no sort has more replies than there are lines, and no text has 2^64 bytes
pub record IsWithin (t : Tally) : Type 0 where
  pub shown : t.shown ≤ t.lines
  pub stored : t.stored ≤ t.lines
  pub undefined : t.undefined ≤ t.lines
  pub refused : t.refused ≤ t.lines
  pub bytes : t.bytes ≤ t.lines * 2 ^ 64

-- how many replies there are, how many of each sort, and how many bytes their texts have
unfoldable pub tally_of : List Reply → Tally
tally_of replies = record {
  lines = length replies;
  shown = how_many one_shown replies;
  stored = how_many one_stored replies;
  undefined = how_many one_undefined replies;
  refused = how_many one_refusal replies;
  bytes = sum_by text_length replies;
}

abbrev pub count_text : List ℕ → ℕ → List ℕ
count_text word n = word ++ decimal n

abbrev pub summary_text : Tally → List ℕ
summary_text t = count_text (codes "lines ") t.lines ++ (count_text (codes " shown ") t.shown ++ (count_text (codes " stored ") t.stored
    ++ (count_text (codes " undef ") t.undefined ++ (count_text (codes " refused ") t.refused ++ count_text (codes " bytes ") t.bytes))))
