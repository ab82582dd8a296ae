-- How the program ends: the number of the process, and the line for standard error.
use Rattle.std.specs.Prelude.{ℕ, List, [], ◌∷◌, ◌++◌, codes}
use Rattle.agent_serving.specs.declared.accept.ServeEnd.{ServeEnd}
use Rattle.agent_serving.specs.declared.accept.ServeEnd.TheVariants.{NoThread, ListenFault, NoMemory}

abbrev pub end_number : ServeEnd → ℕ
end_number NoThread = 12
end_number ListenFault = 13
end_number NoMemory = 10

abbrev pub end_text : ServeEnd → List ℕ
end_text NoThread = codes "factotum: no thread" ++ 10 ∷ []
end_text ListenFault = codes "factotum: listen fault" ++ 10 ∷ []
end_text NoMemory = codes "factotum: out of memory" ++ 10 ∷ []
