mod GreetLemmas
