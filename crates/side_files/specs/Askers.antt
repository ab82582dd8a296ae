-- Questions found and dropped in lists, by their tags and by the conversations that ask.
use Rattle.std.specs.Prelude.{ℕ, List, [], ◌∷◌, ◌==◌, not, filter, Option, Some, None, if◌then◌else◌}
use Rattle.side_files.specs.declared.prompt.Prompt.{Prompt}
use Rattle.side_files.specs.declared.prompt.Asker.{Asker}

-- the conversation that asked the question of a tag, among those that wait for a reply
abbrev pub asker_in : ℕ → List Asker → Option ℕ
asker_in tag [] = None
asker_in tag (a ∷ more) = if a.tag == tag then Some a.conv else asker_in tag more

-- all but the question of a tag
abbrev pub without_tag : ℕ → List Asker → List Asker
without_tag tag askers = filter (λ (a : Asker). not (a.tag == tag)) askers

-- all but the questions of a conversation, of those that were read and of those that weren't
abbrev pub without_conv : ℕ → List Asker → List Asker
without_conv conv askers = filter (λ (a : Asker). not (a.conv == conv)) askers

abbrev pub without_asked : ℕ → List Prompt → List Prompt
without_asked conv prompts = filter (λ (p : Prompt). not (p.conv == conv)) prompts
