-- The domain that lines tell, line by line.
use Rattle.std.proofs.Common.{◌≡◌, ℕ, List, [], ◌∷◌, sym, ap, ◌∙◌}
use Rattle.world_scripts.specs.Lines.{ScriptLine}
use Rattle.world_scripts.specs.Reading.{line_of}
use Rattle.world_scripts.specs.Scripts.{Numbered}
use Rattle.world_history.specs.Told.{dom_behind, ends_domain, told, told_on}

-- one line more, the last that tells, and no line left
pub tells_more : (whole old new : List ℕ) (line : Numbered) (left rest : List Numbered) → dom_behind old (told ends_domain left) ≡ whole → left ≡ line ∷ rest
    → ((more : List ScriptLine) → dom_behind old (told_on ends_domain (line_of line.text) more) ≡ dom_behind new more) → dom_behind new (told ends_domain rest) ≡ whole
tells_more whole old new line left rest so is step = sym (step (told ends_domain rest)) ∙ (ap (λ (ls : List Numbered). dom_behind old (told ends_domain ls)) (sym is) ∙ so)

pub tells_last : (whole old new : List ℕ) (line : Numbered) (left rest : List Numbered) → dom_behind old (told ends_domain left) ≡ whole → left ≡ line ∷ rest
    → ((more : List ScriptLine) → dom_behind old (told_on ends_domain (line_of line.text) more) ≡ dom_behind new []) → new ≡ whole
tells_last whole old new line left rest so is step = sym (step (told ends_domain rest)) ∙ (ap (λ (ls : List Numbered). dom_behind old (told ends_domain ls)) (sym is) ∙ so)

pub tells_all : (whole dom : List ℕ) (left : List Numbered) → dom_behind dom (told ends_domain left) ≡ whole → left ≡ [] → dom ≡ whole
tells_all whole dom left so none = ap (λ (ls : List Numbered). dom_behind dom (told ends_domain ls)) (sym none) ∙ so
