mod RepeatLemmas
