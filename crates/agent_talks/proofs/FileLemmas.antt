-- From what is kept of questions to what deeds say of them.
use Rattle.std.proofs.Common.{◌≡◌, ℕ, List, Option, ap, ◌∙◌}
use Rattle.side_files.specs.Questions.{Questions, asked_by, asker_of, first_conv, next_line, read, replied, reserved_line, standing, unread_lines, withdrawn}
use Rattle.conversations.specs.Asking.{IsMade, unmade}

-- ---- a question that is made changes nothing of those that were asked

pub asked_so : (q r : Questions) (conv : ℕ) (about : List ℕ) → IsMade q about → unmade q ≡ r → unmade (asked_by conv (reserved_line q.reserved) q) ≡ asked_by conv (next_line r about) r
asked_so q r conv about made e =
    ap (λ (o : Option (List ℕ)). asked_by conv (reserved_line o) (unmade q)) made.line
    ∙ ap (λ (s : Questions). asked_by conv (next_line s about) s) e

pub replied_so : (q r : Questions) (tag : ℕ) → unmade q ≡ r → unmade (replied tag q) ≡ replied tag r
replied_so q r tag e = ap (replied tag) e

pub withdrawn_so : (q r : Questions) (conv : ℕ) → unmade q ≡ r → unmade (withdrawn conv q) ≡ withdrawn conv r
withdrawn_so q r conv e = ap (withdrawn conv) e

pub read_so : (q r : Questions) → unmade q ≡ r → unmade (read q) ≡ read r
read_so q r e = ap read e

pub asker_so : (q r : Questions) (tag : ℕ) → unmade q ≡ r → asker_of tag q ≡ asker_of tag r
asker_so q r tag e = ap (asker_of tag) e

pub first_so : (q r : Questions) → unmade q ≡ r → first_conv (standing q) ≡ first_conv (standing r)
first_so q r e = ap (λ (s : Questions). first_conv (standing s)) e

pub lines_so : (q r : Questions) → unmade q ≡ r → unread_lines q ≡ unread_lines r
lines_so q r e = ap unread_lines e
