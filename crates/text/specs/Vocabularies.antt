-- What a text may speak of, by a legend and a number of agents.
use Rattle.legend.specs.Legends.{names_of}
use Rattle.grammar.specs.Grammar.{Vocabulary, vocabulary}
use Rattle.text.specs.declared.terms.Terms.{Terms}

abbrev pub terms_of : Terms → Vocabulary
terms_of t = vocabulary (names_of t.legend) t.agents
