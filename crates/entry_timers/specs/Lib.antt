-- What the timers and the form mean.
pub mod TimersMeaning
