-- `wire::put_decimal` meets its contract. The digits before the last are put by the call, and the last one behind them; the number falls. Assumes nothing.
use Rattle.wire.proofs.+put_decimal.Given as goal

abbrev pub decreases-put_decimal : goal.decreases-put_decimal
decreases-put_decimal l = l.x
