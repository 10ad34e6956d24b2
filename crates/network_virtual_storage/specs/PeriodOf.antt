-- The period that is read, as the definitions have it. Assumes nothing.
use Rattle.pywr.specs.Network as network
use Rattle.network_virtual_storage.specs.declared.Period.{Period}

abbrev pub period_of : Period → network.Period
period_of p =
    record { always = p.always; start_month = p.start_month; start_day = p.start_day; end_month = p.end_month; end_day = p.end_day }
