-- The value of a `Search` in contracts.
use Rattle.recovery_mtud.specs.Search.{MtuSearch}
use Rattle.recovery_mtud.specs.declared.search.Search.TheInside.{Inside}

abbrev pub search_in : Inside → MtuSearch
search_in search =
    record { limit = search.limit; probing = search.probing; activation = search.activation; settings = search.config }

abbrev pub search_back : MtuSearch → Inside
search_back search =
    record { limit = search.limit; probing = search.probing; activation = search.activation; config = search.settings }
