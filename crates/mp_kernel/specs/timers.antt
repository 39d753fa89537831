pub mod TimerWheels
