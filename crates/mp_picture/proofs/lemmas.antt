pub mod svg
pub mod wave_json
